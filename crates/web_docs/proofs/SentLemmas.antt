-- The bytes that a reply sends, put in.
use Rattle.std.proofs.Common.{◌≡◌, ℕ, Bool, true, false, List, length, Option, None, Some, Result, Ok, Err, refl, sym, ap, subst, ◌∙◌}
use Rattle.std.specs.Prelude.{IfOk, if◌then◌else◌}
use Rattle.web_entities.specs.declared.ranges.ByteRangeSpec.{ByteRangeSpec}
use Rattle.web_negotiate.specs.SelectedPositions.{AreEnds, Selects}
use Rattle.web_reply.specs.Replies.{Reply, with_body}
use Rattle.web_reply.specs.declared.body.WholeBody.{WholeBody}
use Rattle.web_reply.specs.declared.body.WholeBody.TheVariants as body
use Rattle.web_docs.specs.Conditions.{Headers}
use Rattle.web_docs.specs.DescribedReplies.{IsDescribedReply, IsSentPart, IsWithin, SendsFor, sent_part}
use Rattle.web_docs.specs.Descriptions.{Description, description}
use Rattle.web_docs.specs.DocumentReplies.{Answers, RepliesTo, SendsPart, filled}
use Rattle.web_docs.specs.Verdicts.{is_head, verdict_of}
use Rattle.web_docs.specs.declared.document.Document.{Document}
use Rattle.web_docs.specs.declared.sends.Sends.{Sends}
use Rattle.web_docs.specs.declared.sends.Sends.TheVariants as sends
use Rattle.web_docs.specs.declared.verdict.Verdict.{Verdict}
use Rattle.web_docs.specs.declared.verdict.Verdict.TheVariants as verdict
use Rattle.web_docs.proofs.PartLemmas.{ends_within, selected_bytes}

-- ---- a part, of its ends

module _ {E : Type 0} (d : Description) (size : ℕ) (spec : ByteRangeSpec) where
  pub part_sent : (ends : Option (ℕ × ℕ)) (r : Result (Reply Sends) E) → AreEnds (Selects spec size) ends → IfOk r (λ reply. reply ≡ sent_part d size ends) → IfOk r (λ reply. IsSentPart d size (Selects spec size) reply)
  part_sent ends (Ok reply) are is = record { ends = ends; are = are; is = is }
  part_sent ends (Err e) are is = tt

-- ---- what is sent lies within the content

module _ (size : ℕ) where
  abbrev Within : Reply Sends → Type 0
  Within reply = IsWithin size reply.body

  part_within : (d : Description) (spec : ByteRangeSpec) (ends : Option (ℕ × ℕ)) → AreEnds (Selects spec size) ends → IsWithin size (sent_part d size ends).body
  part_within d spec None are = tt
  part_within d spec (Some ends) are = ends_within spec size ends.0 ends.1 are

  replied_within : (d : Description) (v : Verdict) (reply : Reply Sends) → SendsFor d size v reply → IsWithin size reply.body
  replied_within d verdict.MethodNotAllowed reply is = subst Within (sym is) tt
  replied_within d verdict.PreconditionFailed reply is = subst Within (sym is) tt
  replied_within d verdict.NotModified reply is = subst Within (sym is) tt
  replied_within d (verdict.Part spec) reply is = subst Within (sym is.is) (part_within d spec is.ends is.are)
  replied_within d verdict.All reply is = subst Within (sym is) tt

  method_within : (head : Bool) (reply : Reply Sends) → IsWithin size reply.body → IsWithin size (if head then with_body sends.Nothing reply else reply).body
  method_within true reply within = tt
  method_within false reply within = within

  pub described_within : (d : Description) (method : List ℕ) (headers : Headers) (reply : Reply Sends) → IsDescribedReply d size method headers reply → IsWithin size reply.body
  described_within d method headers reply is =
      subst Within (sym is.is) (method_within (is_head method) is.whole (replied_within d (verdict_of method headers d.tag d.modified) is.whole is.replies))

-- ---- the bytes put in

module _ (d : Document) where
  filled_part : (spec : ByteRangeSpec) (ends : Option (ℕ × ℕ)) (reply : Reply Sends) → AreEnds (Selects spec (length d.body)) ends → reply ≡ sent_part (description d) (length d.body) ends → SendsPart d (Selects spec (length d.body)) ends (filled d.body reply)
  filled_part spec None reply are is = ap (filled d.body) is
  filled_part spec (Some ends) reply are is = (_, selected_bytes spec d.body ends.0 ends.1 are, ap (filled d.body) is)

  filled_reply : (v : Verdict) (reply : Reply Sends) → SendsFor (description d) (length d.body) v reply → RepliesTo d v (filled d.body reply)
  filled_reply verdict.MethodNotAllowed reply is = ap (filled d.body) is
  filled_reply verdict.PreconditionFailed reply is = ap (filled d.body) is
  filled_reply verdict.NotModified reply is = ap (filled d.body) is
  filled_reply (verdict.Part spec) reply is = record {
    ends = is.ends;
    are = is.are;
    sends = filled_part spec is.ends reply is.are is.is;
  }
  filled_reply verdict.All reply is = ap (filled d.body) is

  filled_method : (head : Bool) (reply : Reply Sends) → filled d.body (if head then with_body sends.Nothing reply else reply) ≡ (if head then with_body body.Empty (filled d.body reply) else filled d.body reply)
  filled_method true reply = refl
  filled_method false reply = refl

  answers : (method : List ℕ) (headers : Headers) (reply : Reply Sends) → IsDescribedReply (description d) (length d.body) method headers reply → Answers d method headers (filled d.body reply)
  answers method headers reply is = record {
    whole = filled d.body is.whole;
    replies = filled_reply (verdict_of method headers d.tag (Some d.modified)) is.whole is.replies;
    is = ap (filled d.body) is.is ∙ filled_method (is_head method) is.whole;
  }

  pub filled_answers : {E : Type 0} (method : List ℕ) (headers : Headers) (reply : Reply Sends) (r : Result (Reply WholeBody) E) → IsDescribedReply (description d) (length d.body) method headers reply → IfOk r (λ whole. whole ≡ filled d.body reply) → IfOk r (λ whole. Answers d method headers whole)
  filled_answers method headers reply (Ok whole) is filling = subst (Answers d method headers) (sym filling) (answers method headers reply is)
  filled_answers method headers reply (Err e) is filling = tt
