-- The error of arguments that are never refused.
use Rattle.std.specs.Prelude.{◌≡◌, ℕ, List, Result, Err, refl}
use Rattle.web_request.specs.declared.source.Mark.{Mark}
use Rattle.web_reply.specs.declared.errors.cause.Cause.TheVariants.{Io}
use Rattle.web_reply.specs.declared.errors.cause.IoKind.TheVariants.{Other}
use Rattle.web_reply.specs.Replies.{Fault, fault_of}
use Rattle.web_extract.specs.declared.never.Never.{Never}

-- a conversion has to name some error; there is no value that it is of
abbrev pub NeverGives : Never → Fault → Type 0
NeverGives e f = f ≡ fault_of (Io Other)

pub never_converted : (e : Never) → (f : Fault) × NeverGives e f
never_converted e = (fault_of (Io Other), refl)

-- what stands for an error where one has to be named
abbrev pub never : Never
never = record { sealed = tt }

-- no refusal is allowed
abbrev pub NeverRefuses :
    {T E : Type 0} → (List Mark → List Mark → ℕ → Result T E → Type 0) → Type 0
NeverRefuses {T} {E} means = (m rest : List Mark) (n : ℕ) (e : E) → means m rest n (Err e) → ⊥
