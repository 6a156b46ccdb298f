-- Refusals as JSON.
use Rattle.std.specs.Prelude.{ℕ, List, Bool, true, false, if◌then◌else◌, codes}
use Rattle.serde_json.specs.Data.{Data, string, object, member, no_members}
use Rattle.serde_json.specs.Written.{compact_text}
use Rattle.web_codec.specs.declared.faults.JsonFault.{JsonFault}
use Rattle.web_codec.specs.declared.faults.JsonFault.TheVariants.{Syntax, Float, Target}
use Rattle.web_body.specs.declared.errors.json_error.JsonPayloadError.{JsonPayloadError}
use Rattle.web_body.specs.declared.errors.json_error.JsonPayloadError.TheVariants as json
use Rattle.web_body.specs.declared.errors.form_error.UrlencodedError.{UrlencodedError}
use Rattle.web_body.specs.declared.errors.form_error.UrlencodedError.TheVariants as form
use Rattle.web_body.specs.declared.errors.path_error.PathError.{PathError}
use Rattle.web_body.specs.declared.errors.path_error.PathError.TheVariants as path
use Rattle.web_reply.specs.Causes.{cause_status, cause_text}
use Rattle.web_reply.specs.Replies.{Fault, Reply, typed_reply}
use Rattle.web_reply.specs.declared.body.WholeBody.{WholeBody}
use Rattle.web_reply.specs.declared.body.WholeBody.TheVariants as whole
use Rattle.web_reply.specs.declared.errors.cause.Cause.{Cause}
use Rattle.web_reply.specs.declared.errors.cause.Cause.TheVariants.{Custom}
use Rattle.web_reply.specs.declared.errors.prepared.Prepared.TheVariants.{Held}

-- the text as the member `error` of an object
abbrev pub error_data : List ℕ → Data
error_data text = object (member (codes "error") (string text) no_members)

abbrev pub error_json : List ℕ → List ℕ
error_json text = compact_text (error_data text)

abbrev pub json_error_reply : ℕ → List ℕ → Reply WholeBody
json_error_reply status text =
    typed_reply status (codes "application/json") (whole.Bytes (error_json text))

-- an error of this status and this text, whose reply is the text as JSON
abbrev pub json_error_with : ℕ → List ℕ → Fault
json_error_with status text = record {
  cause = Custom status text;
  prepared = Held (json_error_reply status text);
}

-- an error of the status and the text of a cause
abbrev pub json_error : Cause → Fault
json_error cause = json_error_with (cause_status cause) (cause_text cause)

-- the text of the reader of a path
abbrev pub path_text : PathError → List ℕ
path_text (path.Deserialize e) = e.text

-- the reader refused the value of a body
abbrev pub target_is_refused : JsonFault → Bool
target_is_refused Syntax = false
target_is_refused Float = false
target_is_refused (Target e) = true

abbrev pub json_is_refused : JsonPayloadError → Bool
json_is_refused (json.OverflowKnownLength length limit) = false
json_is_refused (json.Overflow limit) = false
json_is_refused json.ContentType = false
json_is_refused (json.Deserialize e) = target_is_refused e
json_is_refused (json.Serialize e) = false
json_is_refused (json.Payload e) = false

-- the reader refused the pairs of a form
abbrev pub form_is_refused : UrlencodedError → Bool
form_is_refused form.Chunked = false
form_is_refused (form.Overflow size limit) = false
form_is_refused form.UnknownLength = false
form_is_refused form.ContentType = false
form_is_refused (form.Parse e) = true
form_is_refused form.Encoding = false
form_is_refused (form.Serialize e) = false
form_is_refused (form.Payload e) = false

-- 422 where the reader refused the body, otherwise the status of the cause
abbrev pub body_error : Bool → Cause → Fault
body_error is_refused cause =
    json_error_with (if is_refused then 422 else cause_status cause) (cause_text cause)
