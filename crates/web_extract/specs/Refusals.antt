-- What configured handlers answer to refusals.
use Rattle.std.specs.Prelude.{◌≡◌, Option, None, Some, Result, Ok, refl}
use Rattle.std.specs.Fn.{Shared, FnReturns}
use Rattle.std.specs.Borrow.{Bor}
use Rattle.web_texts.specs.declared.memory.NoMemory.{NoMemory}
use Rattle.web_request.specs.declared.head.RequestHead.{RequestHead}
use Rattle.web_request.specs.Head.{Head, head_view}
use Rattle.web_codec.specs.Answers.{OrAll}
use Rattle.web_body.specs.declared.errors.path_error.PathError.{PathError}
use Rattle.web_body.specs.declared.errors.path_error.PathError.TheVariants as path
use Rattle.web_body.specs.declared.errors.query_error.QueryPayloadError.{QueryPayloadError}
use Rattle.web_body.specs.declared.errors.json_error.JsonPayloadError.{JsonPayloadError}
use Rattle.web_body.specs.declared.errors.form_error.UrlencodedError.{UrlencodedError}
use Rattle.web_codec.specs.Answers.{or_all_some}
use Rattle.web_reply.specs.declared.errors.cause.Cause.TheVariants.{Custom, Form, Io, Json, Query}
use Rattle.web_reply.specs.declared.errors.cause.IoKind.TheVariants.{Other}
use Rattle.web_reply.specs.Replies.{Fault, fault_of}
use Rattle.web_extract.specs.Extracts.{Possible}

-- a call of the closure f with e and the head of a request may return the error x
pub record ClosureRefuses {F E : Type 0}
    (closure : Shared F (E × (Bor RequestHead × Unit {0})) (Result Fault NoMemory))
    (f : F) (e : E) (head : Head) (x : Fault) : Type 0 where
  pub lent : Bor RequestHead
  pub is_head : head_view lent.now ≡ head
  pub returns : FnReturns closure f (e, (lent, tt)) (Ok x)

-- there is no value of a handler that a layer does not have; the type has to name some error
abbrev pub no_refusal : Fault
no_refusal = fault_of (Io Other)

-- what a handler may answer to a refusal
abbrev pub Handler : Type 0 → Type 0 → Type 1
Handler H E = H → E → Head → Fault → Type 0

-- The error of a refusal: what the handler may answer, where there is one; else its own error. A
-- handler that may answer nothing may answer everything.
abbrev pub RefusedBy : {H E : Type 0} → Handler H E → (E → Fault)
    → Option H → E → Head → Fault → Type 0
RefusedBy refuses own None e head x = x ≡ own e
RefusedBy refuses own (Some h) e head x = OrAll (refuses h e head) x

-- a refusal has some error, with a handler or without
pub refused_some : {H E : Type 0} (refuses : Handler H E) (own : E → Fault)
    (handler : Option H) (e : E) (head : Head) → Possible (RefusedBy refuses own handler e head)
refused_some refuses own None e head none = none (own e) refl
refused_some refuses own (Some h) e head none = or_all_some (refuses h e head) (own e) none

-- the same where the handler is a function
abbrev pub refused_by : {H E : Type 0} → (H → E → Head → Fault) → (E → Fault)
    → Option H → E → Head → Fault
refused_by answer own None e head = own e
refused_by answer own (Some h) e head = answer h e head

-- the errors of refusals that no handler answers
abbrev pub json_fault : JsonPayloadError → Fault
json_fault e = fault_of (Json e)

abbrev pub form_fault : UrlencodedError → Fault
form_fault e = fault_of (Form e)

abbrev pub path_fault : PathError → Fault
path_fault (path.Deserialize e) = fault_of (Custom 404 e.text)

abbrev pub query_fault : QueryPayloadError → Fault
query_fault e = fault_of (Query e)
