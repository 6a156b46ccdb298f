-- The builder of a response.
use Rattle.std.specs.Prelude.{◌≡◌, ℕ, List, [], Option, None, Some, Result, Ok, Err, true, false}
use Rattle.std.specs.Prelude.{Bool, ◌||◌, is_none, is_some, codes, decimal}
use Rattle.std.specs.Option.{option_and_then, option_map}
use Rattle.serde_json.specs.Data.{Data}
use Rattle.http_header.specs.FieldValue.{FieldValue, plain_value}
use Rattle.http_header.specs.HeaderMap.{get_all, index_of}
use Rattle.web_texts.specs.Digits.{digits_up_to}
use Rattle.web_texts.specs.HeaderTexts.{first_text_of, value_bytes}
use Rattle.web_codec.specs.PrintedValues.{PrintsJson}
use Rattle.web_codec.specs.declared.faults.WriteFault.{WriteFault}
use Rattle.web_request.specs.declared.source.Mark.{Mark}
use Rattle.web_body.specs.declared.errors.json_error.JsonPayloadError.TheVariants as json
use Rattle.web_reply.specs.ResponseBodies.{Plain, whole_plain}
use Rattle.web_reply.specs.Replies.{Fault, Reply, bare_reply, error_reply, fault_of, plain_reply}
use Rattle.web_reply.specs.Replies.{with_body}
use Rattle.web_reply.specs.declared.body.WholeBody.{WholeBody}
use Rattle.web_reply.specs.declared.body.WholeBody.TheVariants as whole
use Rattle.web_reply.specs.declared.errors.cause.Cause.TheVariants.{Http, Json}
use Rattle.web_reply.specs.declared.errors.cause.HttpError.{HttpError}
use Rattle.web_reply.specs.declared.head.ConnectionType.{ConnectionType}
use Rattle.web_reply.specs.declared.head.ConnectionType.TheVariants as connection
use Rattle.web_reply.specs.declared.head.ResponseHead.{ResponseHead}
use Rattle.web_reply.specs.HeaderSteps.{Headers, place, place_one, valued}
use Rattle.web_reply.specs.declared.header_setting.Placing.{Placing}
use Rattle.web_reply.specs.declared.header_setting.Placing.TheVariants.{Replace}

-- The response as far as it is built, which is none once the builder is spent, and the first error
-- that a setter met.
pub record Building : Type 0 where
  pub response : Option (Reply (Unit {0}))
  pub error : Option HttpError

abbrev pub new_building : ℕ → Building
new_building status = record { response = Some (bare_reply status tt); error = None }

abbrev pub spent_building : Building
spent_building = record { response = None; error = None }

-- the head after a setter, which gives a new one or refuses, unless an error is kept
abbrev pub head_after :
    Option HttpError → ResponseHead → Result ResponseHead HttpError → ResponseHead
head_after (Some e) head step = head
head_after None head (Ok changed) = changed
head_after None head (Err e) = head

-- the error that is kept after a setter, which is none for a builder that is spent
abbrev pub error_after :
    Option HttpError → Option (Result ResponseHead HttpError) → Option HttpError
error_after (Some e) step = Some e
error_after None None = None
error_after None (Some (Ok head)) = None
error_after None (Some (Err e)) = Some e

abbrev pub set_head : Option HttpError → (ResponseHead → Result ResponseHead HttpError)
    → Reply (Unit {0}) → Reply (Unit {0})
set_head error step r = record r { head = head_after error r.head (step r.head) }

abbrev pub step_of : (ResponseHead → Result ResponseHead HttpError)
    → Reply (Unit {0}) → Result ResponseHead HttpError
step_of step r = step r.head

-- the builder after a setter, which does nothing while an error is kept or once it is spent
abbrev pub setter : (ResponseHead → Result ResponseHead HttpError) → Building → Building
setter step b = record {
  response = option_map (set_head b.error step) b.response;
  error = error_after b.error (option_map (step_of step) b.response);
}

-- an error is kept, or the builder is spent, so that setters change nothing
abbrev pub ignores_setters : Building → Bool
ignores_setters b = is_some b.error || is_none b.response

abbrev pub set_status : ℕ → Building → Building
set_status status b = setter (λ head. Ok (record head { status = status })) b

abbrev pub set_reason : List ℕ → Building → Building
set_reason reason b = setter (λ head. Ok (record head { reason = Some reason })) b

abbrev pub set_connection : ConnectionType → Building → Building
set_connection kind b = setter (λ head. Ok (record head { connection = Some kind })) b

abbrev pub mark_no_chunking : Building → Building
mark_no_chunking b = setter (λ head. Ok (record head { no_chunking = true })) b

-- the head with the headers that a step of them gives, or the step's refusal
abbrev pub head_with : ResponseHead → Result Headers HttpError → Result ResponseHead HttpError
head_with head (Ok m) = Ok (record head { headers = m })
head_with head (Err e) = Err e

-- a header, if it was not refused, in place of those of its name or after them
abbrev pub put_header :
    Placing → Result (List ℕ × FieldValue) HttpError → Building → Building
put_header placing header b =
    setter (λ head. head_with head (place_one placing header head.headers)) b

-- Content-Length, and the mark where that was not refused
abbrev pub set_no_chunking : ℕ → Building → Building
set_no_chunking length b =
    mark_no_chunking
    (put_header Replace (Ok (codes "content-length", plain_value (decimal length))) b)

-- a header, unless it was refused
abbrev pub put_unless_refused : Result (List ℕ × FieldValue) HttpError → Building → Building
put_unless_refused (Ok header) b = put_header Replace (Ok header) b
put_unless_refused (Err e) b = b

abbrev pub upgraded_head : Reply (Unit {0}) → Reply (Unit {0})
upgraded_head r = record r { head = record (r.head) { connection = Some connection.Upgrade } }

-- the connection, also where an error is kept
abbrev pub upgraded : Building → Building
upgraded b = record b { response = option_map upgraded_head b.response }

-- the first where an error is kept, else the second
abbrev pub unless_kept : {T : Type 0} → Option HttpError → T → T → T
unless_kept (Some e) kept changed = kept
unless_kept None kept changed = changed

-- the connection, and a header, unless it was refused; the connection also where the header has no
-- room
abbrev pub put_upgrade : Result (List ℕ × FieldValue) HttpError → Building → Building
put_upgrade header b = unless_kept b.error b (upgraded (put_unless_refused header b))

-- the connection, and the header Upgrade, unless its value is refused
abbrev pub set_upgrade : FieldValue → Building → Building
set_upgrade value b = put_upgrade (valued (codes "upgrade") value) b

abbrev pub said_headers : Option (Reply (Unit {0})) → Headers
said_headers None = []
said_headers (Some r) = r.head.headers

abbrev pub has_type : Headers → Bool
has_type m = is_some (index_of m (codes "content-type"))

abbrev pub typed_unless : Bool → List ℕ → Headers → Result Headers HttpError
typed_unless true content_type m = Ok m
typed_unless false content_type m =
    place Replace (codes "content-type") (plain_value content_type) m

-- the headers with the content type, unless there is one
abbrev pub typed_headers : List ℕ → Headers → Result Headers HttpError
typed_headers content_type m = typed_unless (has_type m) content_type m

-- the content type, unless there is one
abbrev pub default_type : List ℕ → Building → Building
default_type content_type b =
    setter (λ head. head_with head (typed_headers content_type head.headers)) b

-- the first Content-Length, where that is digits alone, up to 2^64 - 1
abbrev pub said_length : Building → Option ℕ
said_length b =
    option_and_then (λ text. digits_up_to 18446744073709551615 text)
    (first_text_of (value_bytes (get_all (said_headers b.response) (codes "content-length"))))

-- the result of building a response with this body, where the builder is not spent
abbrev pub message_of : {B : Type 0} → B
    → Option (Reply (Unit {0})) → Option HttpError → Option (Result (Reply B) Fault)
message_of body r (Some e) = Some (Err (fault_of (Http e)))
message_of body None None = None
message_of body (Some r) None = Some (Ok (with_body body r))

-- the response, or the reply to the error, with its body as a plain value
abbrev pub reply_of : {B : Type 0} → (B → Plain) → Result (Reply B) Fault → Reply Plain
reply_of plain (Ok reply) = plain_reply plain reply
reply_of plain (Err fault) = plain_reply whole_plain (error_reply fault)

-- the builder after that: the error is cleared, or the builder is spent
abbrev pub after_message : Option (Reply (Unit {0})) → Option HttpError → Building
after_message r (Some e) = record { response = r; error = None }
after_message r None = spent_building

-- the response with this body, or the reply to the kept error, whose bodies are seen by the
-- function; an empty 500 for a spent builder
abbrev pub built : {B : Type 0} → (WholeBody → B) → B
    → Option (Reply (Unit {0})) → Option HttpError → Reply B
built view body r (Some e) =
    let reply = error_reply (fault_of (Http e)) in with_body (view reply.body) reply
built view body None None = bare_reply 500 (view whole.Empty)
built view body (Some r) None = with_body body r

abbrev pub built_reply : Plain → Building → Reply Plain
built_reply body b = built whole_plain body b.response b.error

abbrev pub finished_reply : Building → Reply WholeBody
finished_reply b = built (λ body. body) whole.Empty b.response b.error

-- a payload of this length, which is not to be sent in chunks
abbrev pub sized_reply : ℕ → Option (List Mark) → Building → Reply Plain
sized_reply n marks b = built_reply (Plain.Sized n marks) (set_no_chunking n b)

-- a payload of a stated length, or of none
abbrev pub stream_of : Option ℕ → Option (List Mark) → Building → Reply Plain
stream_of None marks b = built_reply (Plain.Stream marks) b
stream_of (Some n) marks b = sized_reply n marks b

abbrev pub streamed_reply : Option (List Mark) → Building → Reply Plain
streamed_reply marks b =
    let typed = default_type (codes "application/octet-stream") b in
    stream_of (said_length typed) marks typed

-- the response with this JSON text, or the reply to the writer's refusal
abbrev pub json_reply : Building → Result (List ℕ) WriteFault → Reply Plain
json_reply b (Ok text) =
    built_reply (Plain.Bytes text) (default_type (codes "application/json") b)
json_reply b (Err fault) =
    let reply = error_reply (fault_of (Json (json.Serialize fault))) in
    with_body (whole_plain reply.body) reply

abbrev pub BuildsJson : (Result Data WriteFault → Type 0) → Building → Reply Plain → Type 0
BuildsJson writes b reply =
    (text : Result (List ℕ) WriteFault) × PrintsJson writes text × (reply ≡ json_reply b text)
