-- Errors of any type that prints.
use Rattle.std.specs.Prelude.{◌≡◌, ℕ, List, Option, None, Some, ⊤}
use Rattle.web_reply.specs.ResponseBodies.{Plain, whole_plain}
use Rattle.web_reply.specs.PreparedReplies.{once_given}
use Rattle.web_reply.specs.Replies.{Fault, Reply, bare_reply, default_reply, error_reply}
use Rattle.web_reply.specs.Replies.{plain_reply}
use Rattle.web_reply.specs.declared.body.WholeBody.{WholeBody}
use Rattle.web_reply.specs.declared.body.WholeBody.TheVariants as whole
use Rattle.web_reply.specs.declared.errors.cause.Cause.{Cause}
use Rattle.web_reply.specs.declared.errors.cause.Cause.TheVariants.{Custom}
use Rattle.web_reply.specs.declared.errors.prepared.Prepared.{Prepared}
use Rattle.web_reply.specs.declared.errors.prepared.Prepared.TheVariants.{Never, Held, Given}

-- a value that prints, the status of its reply, and the reply that was prepared
pub record Internal (T : Type 0) : Type 0 where
  pub cause : T
  pub status : ℕ
  pub prepared : Prepared (Reply WholeBody)

abbrev pub new_internal : {T : Type 0} → T → ℕ → Internal T
new_internal cause status = record { cause = cause; status = status; prepared = Never }

abbrev pub prepared_internal : {T : Type 0} → T → Reply WholeBody → Internal T
prepared_internal cause reply =
    record { cause = cause; status = reply.head.status; prepared = Held reply }

abbrev pub after_internal : {T : Type 0} → Internal T → Internal T
after_internal e = record e { prepared = once_given e.prepared }

-- the status of the reply that comes next
abbrev pub status_by : {R : Type 0} → Prepared R → ℕ → ℕ
status_by Never status = status
status_by (Held reply) status = status
status_by Given status = 500

abbrev pub internal_status : {T : Type 0} → Internal T → ℕ
internal_status e = status_by e.prepared e.status

-- the text that a value prints, by what its type states of that
abbrev pub Prints : Option (List ℕ) → List ℕ → Type 0
Prints None text = ⊤
Prints (Some printed) text = text ≡ printed

-- a cause of this status and of the text that a value prints
abbrev pub IsCustom : Option (List ℕ) → ℕ → Cause → Type 0
IsCustom printed status cause =
    (text : List ℕ) × Prints printed text × (cause ≡ Custom status text)

-- an error of such a cause, with no reply prepared
abbrev pub IsCustomFault : Option (List ℕ) → ℕ → Fault → Type 0
IsCustomFault printed status f = IsCustom printed status f.cause × (f.prepared ≡ Never)

-- the error that it becomes
abbrev pub BecomesFault : {T : Type 0} → (T → Option (List ℕ)) → Internal T → Fault → Type 0
BecomesFault output e f = IsCustom (output e.cause) e.status f.cause × (f.prepared ≡ e.prepared)

-- the prepared reply, an empty 500 where it was given before, or that to a cause of this kind
abbrev pub RepliesBy :
    (Cause → Type 0) → Prepared (Reply WholeBody) → Reply WholeBody → Type 0
RepliesBy IsCause Never reply = (cause : Cause) × IsCause cause × (reply ≡ default_reply cause)
RepliesBy IsCause (Held prepared) reply = reply ≡ prepared
RepliesBy IsCause Given reply = reply ≡ bare_reply 500 whole.Empty

-- the reply that it gives next
abbrev pub InternalReplies :
    {T : Type 0} → (T → Option (List ℕ)) → Internal T → Reply WholeBody → Type 0
InternalReplies output e reply =
    RepliesBy (λ cause. IsCustom (output e.cause) e.status cause) e.prepared reply

abbrev pub InternalResponds :
    {T : Type 0} → (T → Option (List ℕ)) → Internal T → Reply Plain → Type 0
InternalResponds output e reply =
    (f : Fault) × BecomesFault output e f × (reply ≡ plain_reply whole_plain (error_reply f))
