-- The status and the text of each cause.
use Rattle.std.specs.Prelude.{ℕ, List, codes}
use Rattle.web_texts.specs.ContentTypeTexts.{content_type_error_text}
use Rattle.web_body.specs.declared.message_body.PayloadError.{PayloadError}
use Rattle.web_body.specs.declared.message_body.PayloadError.TheVariants as payload
use Rattle.web_body.specs.declared.errors.json_error.JsonPayloadError.{JsonPayloadError}
use Rattle.web_body.specs.declared.errors.json_error.JsonPayloadError.TheVariants as json
use Rattle.web_body.specs.declared.errors.form_error.UrlencodedError.{UrlencodedError}
use Rattle.web_body.specs.declared.errors.form_error.UrlencodedError.TheVariants as form
use Rattle.web_body.specs.ErrorTexts.{payload_error_text, json_error_text, form_error_text}
use Rattle.web_body.specs.ErrorTexts.{path_error_text, query_error_text}
use Rattle.web_body.specs.declared.errors.lines_error.ReadlinesError.{ReadlinesError}
use Rattle.web_body.specs.declared.errors.lines_error.ReadlinesError.TheVariants as lines
use Rattle.web_body.specs.LinesErrorTexts.{lines_error_text}
use Rattle.web_codec.specs.FaultTexts.{json_fault_text}
use Rattle.web_reply.specs.SeveralCauses.{several_status, several_text}
use Rattle.web_reply.specs.declared.errors.cause.Cause.{Cause}
use Rattle.web_reply.specs.declared.errors.cause.Cause.TheVariants.{Payload, Http, Utf8, Io, Custom}
use Rattle.web_reply.specs.declared.errors.cause.Cause.TheVariants.{ContentType, Parse, HeaderValue}
use Rattle.web_reply.specs.declared.errors.cause.Cause.TheVariants.{Json, Form, Read, JsonText}
use Rattle.web_reply.specs.declared.errors.cause.Cause.TheVariants.{Write}
use Rattle.web_reply.specs.declared.errors.cause.Cause.TheVariants.{Path, Query, Lines, MissingPeer}
use Rattle.web_reply.specs.declared.errors.cause.Cause.TheVariants.{Several}
use Rattle.web_reply.specs.declared.errors.cause.HttpError.{HttpError}
use Rattle.web_reply.specs.declared.errors.cause.HttpError.TheVariants.{Name, Value, MaxSize}
use Rattle.web_reply.specs.declared.errors.cause.IoKind.{IoKind}
use Rattle.web_reply.specs.declared.errors.cause.IoKind.TheVariants as kind

abbrev pub http_text : HttpError → List ℕ
http_text Name = codes "invalid header name"
http_text Value = codes "invalid header value"
http_text MaxSize = codes "too many headers"

abbrev pub io_text : IoKind → List ℕ
io_text kind.NotFound = codes "not found"
io_text kind.PermissionDenied = codes "permission denied"
io_text kind.Other = codes "input or output failed"

abbrev pub cause_text : Cause → List ℕ
cause_text (Payload e) = payload_error_text e
cause_text (Json e) = json_error_text e
cause_text (Form e) = form_error_text e
cause_text (Path e) = path_error_text e
cause_text (Query e) = query_error_text e
cause_text (Lines e) = lines_error_text e
cause_text (ContentType e) = content_type_error_text e
cause_text (Parse e) = codes "invalid header"
cause_text (HeaderValue e) = codes "invalid header value"
cause_text MissingPeer = codes "Missing peer address"
cause_text (Http e) = http_text e
cause_text (Read e) = e.text
cause_text (JsonText e) = json_fault_text e
cause_text (Write e) = e.text
cause_text Utf8 = codes "invalid UTF-8"
cause_text (Io e) = io_text e
cause_text (Several members) = several_text members
cause_text (Custom status text) = text

abbrev pub payload_status : PayloadError → ℕ
payload_status payload.Overflow = 413
payload_status payload.UnknownLength = 400
payload_status payload.Io = 400
payload_status payload.UnsupportedEncoding = 400

abbrev pub json_status : JsonPayloadError → ℕ
json_status (json.OverflowKnownLength length limit) = 413
json_status (json.Overflow limit) = 413
json_status json.ContentType = 400
json_status (json.Deserialize e) = 400
json_status (json.Serialize e) = 500
json_status (json.Payload e) = payload_status e

abbrev pub form_status : UrlencodedError → ℕ
form_status form.Chunked = 400
form_status (form.Overflow size limit) = 413
form_status form.UnknownLength = 411
form_status form.ContentType = 415
form_status (form.Parse e) = 400
form_status form.Encoding = 400
form_status (form.Serialize e) = 400
form_status (form.Payload e) = payload_status e

abbrev pub lines_status : ReadlinesError → ℕ
lines_status lines.EncodingError = 400
lines_status (lines.Payload e) = 400
lines_status lines.LimitOverflow = 413
lines_status (lines.ContentTypeError e) = 400

abbrev pub io_status : IoKind → ℕ
io_status kind.NotFound = 404
io_status kind.PermissionDenied = 403
io_status kind.Other = 500

abbrev pub cause_status : Cause → ℕ
cause_status (Payload e) = payload_status e
cause_status (Json e) = json_status e
cause_status (Form e) = form_status e
cause_status (Path e) = 400
cause_status (Query e) = 400
cause_status (Lines e) = lines_status e
cause_status (ContentType e) = 400
cause_status (Parse e) = 400
cause_status (HeaderValue e) = 400
cause_status MissingPeer = 500
cause_status (Http e) = 500
cause_status (Read e) = 400
cause_status (JsonText e) = 500
cause_status (Write e) = 500
cause_status Utf8 = 400
cause_status (Io e) = io_status e
cause_status (Several members) = several_status members
cause_status (Custom status text) = status
