-- Data of the application and of a single request as arguments.
use Rattle.std.specs.Prelude.{ℕ, List, ◌++◌, Option, None, Some, Result, Ok, Err, codes}
use Rattle.std.specs.Prelude.{option_and_then}
use Rattle.web_request.specs.Nearest.{nearest}
use Rattle.web_reply.specs.declared.errors.cause.Cause.TheVariants.{Custom}
use Rattle.web_reply.specs.Replies.{Fault, fault_of}
use Rattle.web_extract.specs.HeadArguments.{immediate}
use Rattle.web_extract.specs.ListResults.{DelayedResult}

abbrev pub internal_error : List ℕ → Fault
internal_error text = fault_of (Custom 500 text)

abbrev pub missing_data_text : List ℕ
missing_data_text =
    codes "Requested application data is not configured correctly. "
    ++ codes "View/enable debug logs for more details."

abbrev pub missing_request_data_text : List ℕ
missing_request_data_text = codes "Missing expected request extension data"

-- what is held, or the refusal with this text
abbrev pub held_or_refused : {T : Type 0} → List ℕ → Option T → Result T Fault
held_or_refused text None = Err (internal_error text)
held_or_refused text (Some value) = Ok value

-- the data of the nearest layer that holds it
abbrev pub data_result : {L T : Type 0} → (L → Option T) → List L → DelayedResult T
data_result held layers = immediate (held_or_refused missing_data_text (nearest held layers))

-- what the data of the request holds
abbrev pub request_data_result : {D T : Type 0} → (D → Option T) → Option D → DelayedResult T
request_data_result held local =
    immediate (held_or_refused missing_request_data_text (option_and_then held local))
