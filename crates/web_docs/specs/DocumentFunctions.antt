-- The reply to a request for a document, as a function of both.
use Rattle.std.specs.Prelude.{◌≡◌, ℕ, ◌+◌, codes, length, drop, take}
use Rattle.std.specs.Prelude.{◌∷◌, [], Option, None, Some}
use Rattle.http_header.specs.FieldValue.{plain_value}
use Rattle.web_request.specs.Head.{Head}
use Rattle.web_reply.specs.Replies.{Reply, bare_reply}
use Rattle.web_reply.specs.declared.body.WholeBody.{WholeBody}
use Rattle.web_reply.specs.declared.body.WholeBody.TheVariants as body
use Rattle.web_docs.specs.DescribedReplies.{reply_with}
use Rattle.web_docs.specs.Descriptions.{description, validator_headers, whole_headers}
use Rattle.web_docs.specs.DocumentReplies.{IsDocumentReply, for_method, partial_reply}
use Rattle.web_docs.specs.DocumentReplies.{unsatisfiable_reply}
use Rattle.web_docs.specs.SelectedEnds.{selected_ends}
use Rattle.web_docs.specs.Verdicts.{verdict_of}
use Rattle.web_docs.specs.declared.document.Document.{Document}
use Rattle.web_docs.specs.declared.verdict.Verdict.{Verdict}
use Rattle.web_docs.specs.declared.verdict.Verdict.TheVariants as verdict

-- the bytes from the first to the last position, or 416 where there are none
abbrev pub part_reply : Document → Option (ℕ × ℕ) → Reply WholeBody
part_reply d None = unsatisfiable_reply d
part_reply d (Some ends) = partial_reply d ends (drop ends.0 (take (ends.1 + 1) d.body))

-- the reply to a GET
abbrev pub reply_to : Document → Verdict → Reply WholeBody
reply_to d verdict.MethodNotAllowed =
    reply_with 405 ((codes "allow", plain_value (codes "GET, HEAD") ∷ []) ∷ []) body.Empty
reply_to d verdict.PreconditionFailed = reply_with 412 [] body.Empty
reply_to d verdict.NotModified = reply_with 304 (validator_headers (description d)) body.Empty
reply_to d (verdict.Part spec) = part_reply d (selected_ends spec (length d.body))
reply_to d verdict.All = reply_with 200 (whole_headers (description d)) (body.Bytes d.body)

-- the reply to a request for what a store has under its path
abbrev pub document_reply : Option Document → Head → Reply WholeBody
document_reply None head = bare_reply 404 body.Empty
document_reply (Some d) head =
    for_method head.method
    (reply_to d (verdict_of head.method head.headers d.tag (Some d.modified)))

-- This reply alone is that of a document.
abbrev pub OneDocumentReply : Type 0
OneDocumentReply = (found : Option Document) (head : Head) (reply : Reply WholeBody)
    → IsDocumentReply found head reply → reply ≡ document_reply found head
