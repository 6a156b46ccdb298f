-- Errors of applications, and replies to errors as JSON.
use Rattle.std.specs.Prelude.{◌≡◌, ◌⊎◌, ℕ, List, Option, None, Some, Result, Ok, Err}
use Rattle.web_texts.specs.declared.memory.NoMemory.{NoMemory}
use Rattle.web_texts.specs.declared.memory.Fail.{Fail}
use Rattle.web_texts.specs.declared.memory.Fail.TheVariants as fail
use Rattle.web_reply.specs.Causes.{cause_text}
use Rattle.web_reply.specs.InternalErrors.{IsCustomFault}
use Rattle.web_reply.specs.Replies.{Fault, Reply, plain_reply}
use Rattle.web_reply.specs.ResponseBodies.{Plain, whole_plain}
use Rattle.web_reply.specs.declared.errors.cause.Cause.{Cause}
use Rattle.web_status.specs.JsonErrors.{json_error_reply}

-- a value as it is; in place of an error one of its status and of what it prints, or no memory
abbrev pub Replied : {T E : Type 0} → (E → Option (List ℕ)) → (E → ℕ → Type 0) → Result T (Fail E)
    → Result T (Fail Fault) → Type 0
Replied output status (Ok v) r = r ≡ Ok v
Replied output status (Err fail.NoMemory) r = r ≡ Err fail.NoMemory
Replied output status (Err (fail.Of e)) r =
    (r ≡ Err fail.NoMemory)
    ⊎ ((n : ℕ) × (f : Fault) × (r ≡ Err (fail.Of f)) × status e n × IsCustomFault (output e) n f)

-- the text of an error as JSON, with the status of its reply
abbrev pub json_of_error : Option Cause → Reply Plain → Reply Plain
json_of_error None r = r
json_of_error (Some cause) r =
    plain_reply whole_plain (json_error_reply r.head.status (cause_text cause))
