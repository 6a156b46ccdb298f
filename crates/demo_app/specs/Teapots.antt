-- The handlers and the predicate that a layer of the demo may configure.
use Rattle.std.specs.Prelude.{ℕ, ◌==◌, ◌&&◌, Bool, List, length, codes}
use Rattle.std.specs.Str.{bytes_eq}
use Rattle.web_texts.specs.MediaTypes.{MediaType, essence_of}
use Rattle.web_request.specs.Head.{Head}
use Rattle.web_body.specs.ErrorTexts.{form_error_text, json_error_text, path_error_text}
use Rattle.web_body.specs.ErrorTexts.{query_error_text}
use Rattle.web_body.specs.declared.errors.form_error.UrlencodedError.{UrlencodedError}
use Rattle.web_body.specs.declared.errors.json_error.JsonPayloadError.{JsonPayloadError}
use Rattle.web_body.specs.declared.errors.path_error.PathError.{PathError}
use Rattle.web_body.specs.declared.errors.query_error.QueryPayloadError.{QueryPayloadError}
use Rattle.web_reply.specs.declared.errors.cause.Cause.TheVariants.{Custom}
use Rattle.web_reply.specs.Replies.{Fault, fault_of}
use Rattle.demo_app.specs.declared.teapot.Teapot.{Teapot}
use Rattle.demo_app.specs.declared.teapot.VendorType.{VendorType}

-- status 418 with this text
abbrev pub teapot : List ℕ → Fault
teapot text = fault_of (Custom 418 text)

-- the same, with the text of a refusal, whatever the request's head

abbrev pub json_teapot : Teapot → JsonPayloadError → Head → Fault
json_teapot handler fault head = teapot (json_error_text fault)

abbrev pub form_teapot : Teapot → UrlencodedError → Head → Fault
form_teapot handler fault head = teapot (form_error_text fault)

abbrev pub path_teapot : Teapot → PathError → Head → Fault
path_teapot handler fault head = teapot (path_error_text fault)

abbrev pub query_teapot : Teapot → QueryPayloadError → Head → Fault
query_teapot handler fault head = teapot (query_error_text fault)

-- the media type `text/x-json` without parameters
abbrev pub is_vendor_type : VendorType → MediaType → Bool
is_vendor_type predicate m = bytes_eq (essence_of m) (codes "text/x-json") && length m.params == 0
