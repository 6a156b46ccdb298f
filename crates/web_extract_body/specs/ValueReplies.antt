-- The responses that JSON values and forms become.
use Rattle.std.specs.Prelude.{◌≡◌, ℕ, List, Result, Ok, Err, codes}
use Rattle.serde_json.specs.Data.{Data}
use Rattle.web_texts.specs.Pairs.{Pair}
use Rattle.web_codec.specs.declared.faults.WriteFault.{WriteFault}
use Rattle.web_codec.specs.PrintedValues.{PrintsForm, PrintsJson}
use Rattle.web_body.specs.declared.errors.json_error.JsonPayloadError.TheVariants as json
use Rattle.web_body.specs.declared.errors.form_error.UrlencodedError.TheVariants as form
use Rattle.web_reply.specs.Replies.{Fault, Reply, error_reply, plain_reply, typed_reply}
use Rattle.web_reply.specs.ResponseBodies.{Plain, Plain.Bytes, whole_plain}
use Rattle.web_extract.specs.Refusals.{form_fault, json_fault}

-- 200 with a text of this content type, or the reply to the error of a refusal
abbrev pub written_reply : List ℕ → (WriteFault → Fault) → Result (List ℕ) WriteFault → Reply Plain
written_reply content_type error (Ok text) = typed_reply 200 content_type (Bytes text)
written_reply content_type error (Err e) = plain_reply whole_plain (error_reply (error e))

abbrev pub json_reply : Result (List ℕ) WriteFault → Reply Plain
json_reply x = written_reply (codes "application/json") (λ e. json_fault (json.Serialize e)) x

abbrev pub form_reply : Result (List ℕ) WriteFault → Reply Plain
form_reply x =
    written_reply (codes "application/x-www-form-urlencoded") (λ e. form_fault (form.Serialize e)) x

-- the reply of what may be written
abbrev pub JsonResponds : (Result Data WriteFault → Type 0) → Reply Plain → Type 0
JsonResponds writes r =
    (x : Result (List ℕ) WriteFault) × PrintsJson writes x × (r ≡ json_reply x)

abbrev pub FormResponds : (Result (List Pair) WriteFault → Type 0) → Reply Plain → Type 0
FormResponds writes r =
    (x : Result (List ℕ) WriteFault) × PrintsForm writes x × (r ≡ form_reply x)
