-- One reply alone is that of a document.
use Rattle.std.proofs.Common.{◌≡◌, ℕ, length, Option, None, Some, ap, ◌∙◌}
use Rattle.web_entities.specs.declared.ranges.ByteRangeSpec.{ByteRangeSpec}
use Rattle.web_negotiate.specs.SelectedPositions.{AreEnds, Selects}
use Rattle.web_reply.specs.Replies.{Reply}
use Rattle.web_reply.specs.declared.body.WholeBody.{WholeBody}
use Rattle.web_docs.specs.DocumentFunctions.{OneDocumentReply, part_reply, reply_to}
use Rattle.web_docs.specs.DocumentReplies.{RepliesTo, SendsPart, for_method, partial_reply}
use Rattle.web_docs.specs.SelectedEnds.{selected_ends}
use Rattle.web_docs.specs.Verdicts.{verdict_of}
use Rattle.web_docs.specs.declared.document.Document.{Document}
use Rattle.web_docs.specs.declared.verdict.Verdict.{Verdict}
use Rattle.web_docs.specs.declared.verdict.Verdict.TheVariants as verdict
use Rattle.web_docs.proofs.PartLemmas.{is_slice}
use Rattle.web_docs.proofs.SelectedEndsLemmas.{are_selected_ends, one_pair_of_ends}

part_sent : (d : Document) (s : ByteRangeSpec) (ends : Option (ℕ × ℕ)) (reply : Reply WholeBody) → AreEnds (Selects s (length d.body)) ends
    → SendsPart d (Selects s (length d.body)) ends reply → reply ≡ part_reply d ends
part_sent d s None reply are sends = sends
part_sent d s (Some ends) reply are sends =
    sends.2 ∙ ap (partial_reply d ends) (is_slice s d.body ends.0 ends.1 are sends.0 sends.1)

replied : (d : Document) (v : Verdict) (reply : Reply WholeBody) → RepliesTo d v reply → reply ≡ reply_to d v
replied d verdict.MethodNotAllowed reply is = is
replied d verdict.PreconditionFailed reply is = is
replied d verdict.NotModified reply is = is
replied d (verdict.Part s) reply is =
    part_sent d s is.ends reply is.are is.sends
    ∙ ap (part_reply d) (one_pair_of_ends (Selects s (length d.body)) is.ends (selected_ends s (length d.body)) is.are (are_selected_ends s (length d.body)))
replied d verdict.All reply is = is

pub one_document_reply : OneDocumentReply
one_document_reply None head reply is = is
one_document_reply (Some d) head reply is =
    is.is ∙ ap (for_method head.method) (replied d (verdict_of head.method head.headers d.tag (Some d.modified)) is.whole is.replies)
