-- The reply to a request for a document: its status, its headers, and which bytes of the document
-- it sends (RFC 7232, section 4; RFC 7233, section 4; RFC 9110, sections 9.3.2 and 15.5.6).
use Rattle.std.specs.Prelude.{◌≡◌, ℕ, ◌+◌, List, [], ◌∷◌, ◌++◌, length, codes, drop, take}
use Rattle.std.specs.Prelude.{Option, None, Some, if◌then◌else◌}
use Rattle.http_header.specs.FieldValue.{plain_value}
use Rattle.web_negotiate.specs.SelectedPositions.{AreEnds, Selects}
use Rattle.web_request.specs.Head.{Head}
use Rattle.web_reply.specs.Replies.{Reply, bare_reply, with_body}
use Rattle.web_reply.specs.declared.body.WholeBody.{WholeBody}
use Rattle.web_reply.specs.declared.body.WholeBody.TheVariants as body
use Rattle.web_docs.specs.Conditions.{Headers}
use Rattle.web_docs.specs.DescribedReplies.{range_header, reply_with}
use Rattle.web_docs.specs.Descriptions.{description, validator_headers, whole_headers}
use Rattle.web_docs.specs.SentPositions.{AreBytesAt}
use Rattle.web_docs.specs.Verdicts.{is_head, verdict_of}
use Rattle.web_docs.specs.declared.document.Document.{Document}
use Rattle.web_docs.specs.declared.sends.Sends.{Sends}
use Rattle.web_docs.specs.declared.sends.Sends.TheVariants as sends
use Rattle.web_docs.specs.declared.verdict.Verdict.{Verdict}
use Rattle.web_docs.specs.declared.verdict.Verdict.TheVariants as verdict

-- no position is selected
abbrev pub unsatisfiable_reply : Document → Reply WholeBody
unsatisfiable_reply d = reply_with 416 (range_header None (length d.body)) body.Empty

-- a part, whose first and last positions are the ends
abbrev pub partial_reply : Document → ℕ × ℕ → List ℕ → Reply WholeBody
partial_reply d ends part =
    reply_with 206 (whole_headers (description d) ++ range_header (Some ends) (length d.body))
    (body.Bytes part)

-- the bytes at the positions of a set with these ends, or 416 where it is empty
abbrev pub SendsPart : Document → (ℕ → Type 0) → Option (ℕ × ℕ) → Reply WholeBody → Type 0
SendsPart d In None reply = reply ≡ unsatisfiable_reply d
SendsPart d In (Some ends) reply =
    (part : List ℕ) × AreBytesAt In d.body part × (reply ≡ partial_reply d ends part)

pub record IsPartReply (d : Document) (In : ℕ → Type 0) (reply : Reply WholeBody) : Type 0 where
  pub ends : Option (ℕ × ℕ)
  pub are : AreEnds In ends
  pub sends : SendsPart d In ends reply

-- the reply to a GET
abbrev pub RepliesTo : Document → Verdict → Reply WholeBody → Type 0
RepliesTo d verdict.MethodNotAllowed reply =
    reply ≡ reply_with 405 ((codes "allow", plain_value (codes "GET, HEAD") ∷ []) ∷ []) body.Empty
RepliesTo d verdict.PreconditionFailed reply = reply ≡ reply_with 412 [] body.Empty
RepliesTo d verdict.NotModified reply =
    reply ≡ reply_with 304 (validator_headers (description d)) body.Empty
RepliesTo d (verdict.Part spec) reply = IsPartReply d (Selects spec (length d.body)) reply
RepliesTo d verdict.All reply =
    reply ≡ reply_with 200 (whole_headers (description d)) (body.Bytes d.body)

-- The reply to HEAD has no body.
abbrev pub for_method : List ℕ → Reply WholeBody → Reply WholeBody
for_method method reply = if is_head method then with_body body.Empty reply else reply

-- the reply to a request of this method and these headers
pub record Answers (d : Document) (method : List ℕ) (headers : Headers) (reply : Reply WholeBody)
    : Type 0 where
  pub whole : Reply WholeBody
  pub replies : RepliesTo d (verdict_of method headers d.tag (Some d.modified)) whole
  pub is : reply ≡ for_method method whole

-- the reply to a request for what a store has under its path
abbrev pub IsDocumentReply : Option Document → Head → Reply WholeBody → Type 0
IsDocumentReply None head reply = reply ≡ bare_reply 404 body.Empty
IsDocumentReply (Some d) head reply = Answers d head.method head.headers reply

-- the bytes of content that a reply sends
abbrev pub sent_bytes : List ℕ → Sends → WholeBody
sent_bytes content sends.Nothing = body.Empty
sent_bytes content sends.All = body.Bytes content
sent_bytes content (sends.Part first last) = body.Bytes (drop first (take (last + 1) content))

-- a reply with the bytes that it sends of content
abbrev pub filled : List ℕ → Reply Sends → Reply WholeBody
filled content reply = with_body (sent_bytes content reply.body) reply
