-- The texts of errors.
use Rattle.std.specs.Prelude.{ℕ, List, ◌++◌, codes, decimal}
use Rattle.web_codec.specs.FaultTexts.{json_fault_text}
use Rattle.web_body.specs.declared.message_body.PayloadError.{PayloadError}
use Rattle.web_body.specs.declared.message_body.PayloadError.TheVariants as payload
use Rattle.web_body.specs.declared.errors.json_error.JsonPayloadError.{JsonPayloadError}
use Rattle.web_body.specs.declared.errors.json_error.JsonPayloadError.TheVariants as json
use Rattle.web_body.specs.declared.errors.form_error.UrlencodedError.{UrlencodedError}
use Rattle.web_body.specs.declared.errors.form_error.UrlencodedError.TheVariants as form
use Rattle.web_body.specs.declared.errors.path_error.PathError.{PathError}
use Rattle.web_body.specs.declared.errors.path_error.PathError.TheVariants as path
use Rattle.web_body.specs.declared.errors.query_error.QueryPayloadError.{QueryPayloadError}
use Rattle.web_body.specs.declared.errors.query_error.QueryPayloadError.TheVariants as query

abbrev pub payload_error_text : PayloadError → List ℕ
payload_error_text payload.Overflow = codes "payload reached its limit"
payload_error_text payload.UnknownLength = codes "payload length is unknown"
payload_error_text payload.Io = codes "payload read failed"
payload_error_text payload.UnsupportedEncoding = codes "content coding is not supported"

abbrev pub json_error_text : JsonPayloadError → List ℕ
json_error_text (json.OverflowKnownLength length limit) =
    codes "JSON payload (" ++ (decimal length
    ++ (codes " bytes) is larger than allowed (limit: " ++ (decimal limit ++ codes " bytes).")))
json_error_text (json.Overflow limit) =
    codes "JSON payload has exceeded limit (" ++ decimal limit ++ codes " bytes)."
json_error_text json.ContentType = codes "Content type error"
json_error_text (json.Deserialize e) = codes "Json deserialize error: " ++ json_fault_text e
json_error_text (json.Serialize e) = codes "Json serialize error: " ++ e.text
json_error_text (json.Payload e) =
    codes "Error that occur during reading payload: " ++ payload_error_text e

abbrev pub form_error_text : UrlencodedError → List ℕ
form_error_text form.Chunked = codes "Can not decode chunked transfer encoding."
form_error_text (form.Overflow size limit) =
    codes "URL encoded payload is larger (" ++ (decimal size
    ++ (codes " bytes) than allowed (limit: " ++ (decimal limit ++ codes " bytes).")))
form_error_text form.UnknownLength = codes "Payload size is now known."
form_error_text form.ContentType = codes "Content type error."
form_error_text (form.Parse e) = codes "Parse error: " ++ e.text ++ codes "."
form_error_text form.Encoding = codes "Encoding error."
form_error_text (form.Serialize e) = codes "Serialize error: " ++ e.text ++ codes "."
form_error_text (form.Payload e) =
    codes "Error that occur during reading payload: " ++ payload_error_text e ++ codes "."

abbrev pub path_error_text : PathError → List ℕ
path_error_text (path.Deserialize e) = codes "Path deserialize error: " ++ e.text

abbrev pub query_error_text : QueryPayloadError → List ℕ
query_error_text (query.Deserialize e) = codes "Query deserialize error: " ++ e.text

abbrev pub body_limit_text : List ℕ
body_limit_text = codes "body limit exceeded"
