-- The reply to a request for content of which a description and the length are known: its status,
-- its headers, and which of the bytes it sends (RFC 7232, section 4; RFC 7233, section 4; RFC 9110,
-- sections 9.3.2 and 15.5.6).
use Rattle.std.specs.Prelude.{◌≡◌, ◌≤◌, ◌<◌, ℕ, List, [], ◌∷◌, ◌++◌, codes}
use Rattle.std.specs.Prelude.{Option, None, Some, if◌then◌else◌}
use Rattle.http_header.specs.FieldValue.{FieldValue, plain_value}
use Rattle.web_entities.specs.ContentRanges.{content_range_text}
use Rattle.web_entities.specs.declared.content_range.ContentRangeSpec.TheVariants as range
use Rattle.web_negotiate.specs.SelectedPositions.{AreEnds, Selects}
use Rattle.web_reply.specs.Replies.{Reply, with_body}
use Rattle.web_reply.specs.ResponseHeads.{new_head}
use Rattle.web_docs.specs.Conditions.{Headers}
use Rattle.web_docs.specs.Descriptions.{Description, validator_headers, whole_headers}
use Rattle.web_docs.specs.Verdicts.{is_head, verdict_of}
use Rattle.web_docs.specs.declared.sends.Sends.{Sends}
use Rattle.web_docs.specs.declared.sends.Sends.TheVariants as sends
use Rattle.web_docs.specs.declared.verdict.Verdict.{Verdict}
use Rattle.web_docs.specs.declared.verdict.Verdict.TheVariants as verdict

-- the positions that are sent of content of this length are below it
abbrev pub IsWithin : ℕ → Sends → Type 0
IsWithin size sends.Nothing = Unit {0}
IsWithin size sends.All = Unit {0}
IsWithin size (sends.Part first last) = (first ≤ last) × (last < size)

-- HTTP/1.1, this status, these headers and this body
abbrev pub reply_with : {B : Type 0} → ℕ → Headers → B → Reply B
reply_with status headers b =
    record { head = record (new_head status) { headers = headers }; body = b; error = None }

-- `bytes a-b/LENGTH`, or `bytes */LENGTH`
abbrev pub range_value : Option (ℕ × ℕ) → ℕ → FieldValue
range_value ends size = plain_value (content_range_text (range.Bytes ends (Some size)))

-- the headers of a part, with this value of Content-Range
abbrev pub part_headers : FieldValue → Description → Headers
part_headers value d = whole_headers d ++ (codes "content-range", value ∷ []) ∷ []

abbrev pub range_header : Option (ℕ × ℕ) → ℕ → Headers
range_header ends size = (codes "content-range", range_value ends size ∷ []) ∷ []

-- the bytes from the first to the last position, or 416 where no position is selected
abbrev pub sent_part : Description → ℕ → Option (ℕ × ℕ) → Reply Sends
sent_part d size None = reply_with 416 (range_header None size) sends.Nothing
sent_part d size (Some ends) =
    reply_with 206 (whole_headers d ++ range_header (Some ends) size) (sends.Part ends.0 ends.1)

-- the bytes from the least to the greatest of the positions of a set, or 416 where it is empty
pub record IsSentPart (d : Description) (size : ℕ) (In : ℕ → Type 0) (reply : Reply Sends)
    : Type 0 where
  pub ends : Option (ℕ × ℕ)
  pub are : AreEnds In ends
  pub is : reply ≡ sent_part d size ends

-- the reply to a GET
abbrev pub SendsFor : Description → ℕ → Verdict → Reply Sends → Type 0
SendsFor d size verdict.MethodNotAllowed reply =
    reply
    ≡ reply_with 405 ((codes "allow", plain_value (codes "GET, HEAD") ∷ []) ∷ []) sends.Nothing
SendsFor d size verdict.PreconditionFailed reply = reply ≡ reply_with 412 [] sends.Nothing
SendsFor d size verdict.NotModified reply =
    reply ≡ reply_with 304 (validator_headers d) sends.Nothing
SendsFor d size (verdict.Part spec) reply = IsSentPart d size (Selects spec size) reply
SendsFor d size verdict.All reply = reply ≡ reply_with 200 (whole_headers d) sends.All

-- The reply to HEAD sends nothing.
abbrev pub sends_for_method : List ℕ → Reply Sends → Reply Sends
sends_for_method method reply =
    if is_head method then with_body sends.Nothing reply else reply

-- the reply to a request of this method and these headers for content of this length
pub record IsDescribedReply (d : Description) (size : ℕ) (method : List ℕ) (headers : Headers)
    (reply : Reply Sends) : Type 0 where
  pub whole : Reply Sends
  pub replies : SendsFor d size (verdict_of method headers d.tag d.modified) whole
  pub is : reply ≡ sends_for_method method whole
