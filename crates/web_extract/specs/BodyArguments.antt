-- Arguments that are the whole body: the tests of the head that leave the payload, and then the
-- result of collecting it.
use Rattle.std.specs.Prelude.{◌≡◌, ℕ, List, [], codes, if◌then◌else◌, refl}
use Rattle.std.specs.Prelude.{Option, None, Some, Result, Ok, Err}
use Rattle.std.specs.Option.{option_map}
use Rattle.http_header.specs.FieldValue.{FieldValue}
use Rattle.http_header.specs.HeaderMap.{Entries}
use Rattle.web_texts.specs.MediaTypes.{MediaType, media_type_eq}
use Rattle.web_texts.specs.declared.errors.ContentTypeError.{ContentTypeError}
use Rattle.web_request.specs.declared.source.Mark.{Mark}
use Rattle.web_request.specs.MessageFields.{encoding_of, mime_type_of}
use Rattle.web_request.specs.Reading.{Reading, reading}
use Rattle.web_body.specs.HeadTests.{refusal_by}
use Rattle.web_body.specs.MessageBody.{answer_of}
use Rattle.web_body.specs.declared.message_body.PayloadError.{PayloadError}
use Rattle.web_reply.specs.Replies.{Fault, fault_of}
use Rattle.web_reply.specs.declared.errors.cause.Cause.TheVariants.{ContentType, Custom, Payload}
use Rattle.web_extract.specs.ConvertedFutures.{converted_result}
use Rattle.web_extract.specs.Extracts.{AllowsSome}
use Rattle.web_extract.specs.ListResults.{DelayedResult}

abbrev pub bad_request : List ℕ → Fault
bad_request text = fault_of (Custom 400 text)

-- refused unless the type that the head names is the required one, parameters included
abbrev pub unexpected_type : MediaType → Result (Option MediaType) ContentTypeError → Option Fault
unexpected_type required (Err e) = Some (fault_of (ContentType e))
unexpected_type required (Ok None) = Some (bad_request (codes "Content-Type is expected"))
unexpected_type required (Ok (Some found)) =
    if media_type_eq found required then None
    else Some (bad_request (codes "Unexpected Content-Type"))

-- the refusal of a Content-Type other than the required one
abbrev pub type_refusal : Option MediaType → Entries FieldValue → Option Fault
type_refusal None headers = None
type_refusal (Some required) headers = unexpected_type required (mime_type_of headers)

abbrev pub error_of : Result (Unit {0}) ContentTypeError → Option Fault
error_of (Ok _) = None
error_of (Err e) = Some (fault_of (ContentType e))

-- the refusal of an unreadable Content-Type and of a charset other than UTF-8
abbrev pub charset_refusal : Entries FieldValue → Option Fault
charset_refusal headers = error_of (encoding_of headers)

abbrev pub payload_fault : PayloadError → Fault
payload_fault e = fault_of (Payload e)

abbrev pub collected : Result (List ℕ) PayloadError → Result (List ℕ) Fault
collected x = converted_result (λ bytes. bytes) payload_fault x

-- the refusal at the first poll, where there is one
abbrev pub unless_refused : {T : Type 0} → Option Fault → DelayedResult T → DelayedResult T
unless_refused None r = r
unless_refused (Some e) r = record { delay = 0; result = Err e }

abbrev pub read_result : Reading → DelayedResult (List ℕ)
read_result r = record { delay = r.delay; result = collected (answer_of r.content) }

-- the payload of a request, collected: refused by its head, else read under the limit
abbrev pub collected_result : ℕ → Entries FieldValue → List Mark → DelayedResult (List ℕ)
collected_result limit headers m =
    unless_refused (option_map payload_fault (refusal_by headers limit))
    (read_result (reading limit m))

-- a test that refuses leaves the marks, and the collector takes them
abbrev pub rest_after : Option Fault → List Mark → List Mark
rest_after None m = []
rest_after (Some e) m = m

-- the body of a request, after the tests that leave it
abbrev pub body_result : Option Fault → ℕ → Entries FieldValue → List Mark
    → DelayedResult (List ℕ)
body_result refusal limit headers m = unless_refused refusal (collected_result limit headers m)

-- it leaves these marks, and has this delay and this result
abbrev pub MeansBodyAfter : Option Fault → ℕ → Entries FieldValue
    → List Mark → List Mark → ℕ → Result (List ℕ) Fault → Type 0
MeansBodyAfter refusal limit headers m rest n x =
    (rest ≡ rest_after refusal m)
    × (n ≡ (body_result refusal limit headers m).delay)
    × (x ≡ (body_result refusal limit headers m).result)

pub body_after_some : (refusal : Option Fault) (limit : ℕ) (headers : Entries FieldValue)
    (m : List Mark) → AllowsSome (MeansBodyAfter refusal limit headers m)
body_after_some refusal limit headers m none =
    let r = body_result refusal limit headers m in
    none (rest_after refusal m) r.delay r.result (refl, refl, refl)
