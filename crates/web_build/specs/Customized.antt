-- Responders whose response is changed.
use Rattle.std.specs.Prelude.{◌≡◌, ℕ, List, [], Option, None, Some, Result, Ok, Err, IsOk, ⊤}
use Rattle.std.specs.List.{fold}
use Rattle.std.specs.Option.{unwrap_or}
use Rattle.http_header.specs.FieldValue.{FieldValue}
use Rattle.http_header.specs.HeaderMap.{append_all, insert, pairs}
use Rattle.web_reply.specs.ResponseBodies.{Plain, whole_plain}
use Rattle.web_texts.specs.declared.memory.Fail.{Fail}
use Rattle.web_texts.specs.declared.memory.Fail.TheVariants as fail
use Rattle.web_reply.specs.declared.body.EitherBody.{EitherBody}
use Rattle.web_reply.specs.declared.body.EitherBody.TheVariants.{Left, Right}
use Rattle.web_reply.specs.declared.body.WholeBody.{WholeBody}
use Rattle.web_reply.specs.Replies.{Reply, error_reply, fault_of, plain_reply, with_body}
use Rattle.web_reply.specs.declared.errors.cause.Cause.TheVariants.{Http}
use Rattle.web_reply.specs.declared.errors.cause.HttpError.{HttpError}
use Rattle.web_reply.specs.HeaderSteps.{Headers, and_place_each, place_each, place_one}
use Rattle.web_reply.specs.declared.header_setting.Placing.TheVariants.{Replace, Append}
use Rattle.web_reply.specs.ResponseCookies.{with_headers}
use Rattle.web_build.specs.Builders.{unless_kept}

-- A responder, with the status in place of its response's, the headers in place of those of their
-- names, those that are added, and the first error that a call met.
pub record Customized (R : Type 0) : Type 0 where
  pub inner : R
  pub status : Option ℕ
  pub overrides : Headers
  pub appended : Headers
  pub error : Option HttpError

abbrev pub new_customized : {R : Type 0} → R → Customized R
new_customized inner =
    record { inner = inner; status = None; overrides = []; appended = []; error = None }

abbrev pub set_customized_status : {R : Type 0} → ℕ → Customized R → Customized R
set_customized_status status c = unless_kept c.error c (record c { status = Some status })

abbrev pub with_overrides : {R : Type 0} → Customized R → Result Headers HttpError → Customized R
with_overrides c (Ok m) = record c { overrides = m }
with_overrides c (Err e) = record c { error = Some e }

abbrev pub with_appended : {R : Type 0} → Customized R → Result Headers HttpError → Customized R
with_appended c (Ok m) = record c { appended = m }
with_appended c (Err e) = record c { error = Some e }

-- a header, if it was not refused, in place of those of its name among the overrides
abbrev pub put_override :
    {R : Type 0} → Result (List ℕ × FieldValue) HttpError → Customized R → Customized R
put_override header c =
    unless_kept c.error c (with_overrides c (place_one Replace header c.overrides))

-- a header, if it was not refused, after those that are added
abbrev pub append_to :
    {R : Type 0} → Result (List ℕ × FieldValue) HttpError → Customized R → Customized R
append_to header c =
    unless_kept c.error c (with_appended c (place_one Append header c.appended))

-- the headers with the overrides in place of those of their names, then with those that are added
abbrev pub layer_headers : Headers → Headers → Headers → Result Headers HttpError
layer_headers overrides appended m =
    and_place_each Append (place_each Replace (pairs overrides) m) (pairs appended)

abbrev pub refusal_reply : HttpError → Reply Plain
refusal_reply e = plain_reply whole_plain (error_reply (fault_of (Http e)))

-- the response with this status, if there is one to set
abbrev pub with_status : {B : Type 0} → Option ℕ → Reply B → Reply B
with_status status r =
    record r { head = record (r.head) { status = unwrap_or status r.head.status } }

abbrev pub with_layers : Reply Plain → ℕ → Result Headers HttpError → Reply Plain
with_layers own status (Ok m) =
    record own { head = record (own.head) { status = status; headers = m } }
with_layers own status (Err e) = refusal_reply e

-- What a call that lays a status and headers over a response returns, and the response that it
-- leaves, which may be any where it fails.
abbrev pub Changes : {B : Type 0} → Option ℕ → Result Headers HttpError → Reply B
    → Result (Unit {0}) (Fail HttpError) → Reply B → Type 0
Changes status headers old (Ok done) new =
    (headers ≡ Ok new.head.headers) × (new ≡ with_headers new.head.headers (with_status status old))
Changes status headers old (Err fail.NoMemory) new = ⊤
Changes status headers old (Err (fail.Of e)) new = headers ≡ Err e

-- the response with this status and these headers, or the reply to their refusal
abbrev pub either_reply : {B : Type 0} → Reply B → Option ℕ → Result Headers HttpError
    → Reply (EitherBody B WholeBody)
either_reply own status (Ok m) =
    with_body (Left own.body) (with_headers m (with_status status own))
either_reply own status (Err e) =
    let reply = error_reply (fault_of (Http e)) in with_body (Right reply.body) reply

-- the response of the responder itself, changed
abbrev pub layered : {R : Type 0} → Customized R → Reply Plain → Reply Plain
layered c own =
    with_layers own (unwrap_or c.status own.head.status)
    (layer_headers c.overrides c.appended own.head.headers)

-- the response of the responder itself, changed
abbrev pub LayersOwn : {R Q : Type 0} → (R → Q → Reply Plain → Type 0)
    → Customized R → Q → Reply Plain → Type 0
LayersOwn responds c q r = (own : Reply Plain) × responds c.inner q own × (r ≡ layered c own)

-- the reply to the kept error, or the response of the responder itself, changed
abbrev pub CustomizeResponds : {R Q : Type 0} → (R → Q → Reply Plain → Type 0)
    → Option HttpError → Customized R → Q → Reply Plain → Type 0
CustomizeResponds responds (Some e) c q r = r ≡ refusal_reply e
CustomizeResponds responds None c q r = LayersOwn responds c q r

-- no error is kept, no header is changed, and the response of the responder itself takes no memory
abbrev pub CustomizedNeedsNoMemory : {R : Type 0} → (R → Type 0) → Customized R → Type 0
CustomizedNeedsNoMemory needs_no_memory c =
    (c.error ≡ None) × (c.overrides ≡ []) × (c.appended ≡ []) × needs_no_memory c.inner

abbrev pub insert_all : Headers → List (List ℕ × FieldValue) → Headers
insert_all m headers = fold (λ n header. insert n header.0 header.1) m headers

-- there is room for each header that is changed
abbrev pub Fits : {R : Type 0} → Customized R → Reply Plain → Type 0
Fits c own = IsOk (layer_headers c.overrides c.appended own.head.headers)

-- the response with the status, then the overrides, then the headers that are added
abbrev pub stacked : {R : Type 0} → Customized R → Reply Plain → Reply Plain
stacked c own = record own {
  head = record (own.head) {
    status = unwrap_or c.status own.head.status;
    headers = append_all (insert_all own.head.headers (pairs c.overrides)) (pairs c.appended);
  };
}
