-- The responses that each type of responder becomes.
use Rattle.std.specs.Prelude.{◌≡◌, ℕ, List, Option, None, Some, Result, Ok, Err, codes}
use Rattle.web_reply.specs.ResponseBodies.{Plain, Plain.Bytes, Plain.Empty, whole_plain}
use Rattle.web_reply.specs.Replies.{Reply, Fault, bare_reply, error_reply, plain_reply, plain_text}
use Rattle.web_reply.specs.Replies.{typed_reply}

abbrev pub text_reply : List ℕ → Reply Plain
text_reply text = typed_reply 200 plain_text (Bytes text)

abbrev pub bytes_reply : List ℕ → Reply Plain
bytes_reply bytes = typed_reply 200 (codes "application/octet-stream") (Bytes bytes)

abbrev pub empty_reply : ℕ → Reply Plain
empty_reply status = bare_reply status Empty

-- the reply to an error that e converts into
abbrev pub Refuses : {E : Type 0} → (E → Fault → Type 0) → E → Reply Plain → Type 0
Refuses converts e r =
    (f : Fault) × converts e f × (r ≡ plain_reply whole_plain (error_reply f))

-- the response of the value, or an empty 404
abbrev pub OptionResponds :
    {R Q : Type 0} → (R → Q → Reply Plain → Type 0) → Option R → Q → Reply Plain → Type 0
OptionResponds responds None q r = r ≡ empty_reply 404
OptionResponds responds (Some v) q r = responds v q r

-- the response of the value, or the reply to the error
abbrev pub ResultResponds :
    {R E Q : Type 0} → (R → Q → Reply Plain → Type 0) → (E → Fault → Type 0)
    → Result R E → Q → Reply Plain → Type 0
ResultResponds responds converts (Ok v) q r = responds v q r
ResultResponds responds converts (Err e) q r = Refuses converts e r

-- an empty 204, or the reply to the error
abbrev pub DoneResponds :
    {X E : Type 0} → (E → Fault → Type 0) → Result X E → Reply Plain → Type 0
DoneResponds converts (Ok x) r = r ≡ empty_reply 204
DoneResponds converts (Err e) r = Refuses converts e r

-- the response of the value, with this status in place of its own
abbrev pub StatusResponds :
    {R Q : Type 0} → (R → Q → Reply Plain → Type 0) → R → ℕ → Q → Reply Plain → Type 0
StatusResponds responds v status q r =
    (own : Reply Plain) × responds v q own
    × (r ≡ record own { head = record (own.head) { status = status } })
