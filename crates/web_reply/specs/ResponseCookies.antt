-- The cookies that a response sets.
use Rattle.std.specs.Prelude.{◌≡◌, ◌≢◌, ℕ, ◌<◌, ◌++◌, Bool, true, false, not, List, [], ◌∷◌}
use Rattle.std.specs.Prelude.{length, bytes_eq, ◌==◌, if◌then◌else◌}
use Rattle.std.specs.Prelude.{Option, None, Some, Result, Ok, Err, codes, option_to_list}
use Rattle.std.specs.List.{filter}
use Rattle.std.specs.Option.{option_and_then}
use Rattle.std.specs.Result.{result_ok}
use Rattle.http_header.specs.FieldValue.{FieldValue}
use Rattle.http_header.specs.HeaderMap.{get_all, remove}
use Rattle.web_texts.specs.declared.memory.NoMemory.{NoMemory}
use Rattle.web_texts.specs.declared.memory.Fail.{Fail}
use Rattle.web_texts.specs.declared.memory.Fail.TheVariants as fail
use Rattle.web_texts.specs.HeaderTexts.{header_text_of}
use Rattle.web_cookies.specs.CookieFields.{CookieFields}
use Rattle.web_cookies.specs.CookieReaders.{cookie_said}
use Rattle.web_cookies.specs.CookieRemoval.{IsRemoval}
use Rattle.web_reply.specs.CookieHeaders.{cookie_header}
use Rattle.web_reply.specs.HeaderSteps.{Headers, place_one}
use Rattle.web_reply.specs.Replies.{Reply}
use Rattle.web_reply.specs.declared.errors.cause.HttpError.{HttpError}
use Rattle.web_reply.specs.declared.header_setting.Placing.TheVariants.{Append}

-- the cookie that a value says, percent-decoded, where it is header text that says one
abbrev pub cookie_in : FieldValue → Option CookieFields
cookie_in value =
    option_and_then (λ text. result_ok (cookie_said true text)) (header_text_of value.bytes)

-- the cookie that a text says, if there is one, before others; none where there is no text
abbrev pub before : Option (List ℕ) → List CookieFields → List CookieFields
before None more = []
before (Some text) more = option_to_list (result_ok (cookie_said true text)) ++ more

-- the cookies that values say, up to the first value that is no header text
abbrev pub cookies_left : List FieldValue → List CookieFields
cookies_left [] = []
cookies_left (value ∷ more) = before (header_text_of value.bytes) (cookies_left more)

-- what is found first among values, and the values after it
abbrev pub NextCookie :
    List FieldValue → Option (Result CookieFields NoMemory) → List FieldValue → Type 0
NextCookie old None new = cookies_left old ≡ []
NextCookie old (Some (Ok cookie)) new =
    (cookies_left old ≡ cookie ∷ cookies_left new) × (length new < length old)
NextCookie old (Some (Err e)) new = length new < length old

-- the same of the iterator, which ends where no cookie was found
abbrev pub GivesCookie :
    List FieldValue → Option (Result CookieFields NoMemory) → List FieldValue → Type 0
GivesCookie old None new = (cookies_left old ≡ []) × (new ≡ [])
GivesCookie old (Some (Ok cookie)) new =
    (cookies_left old ≡ cookie ∷ cookies_left new) × (length new < length old)
GivesCookie old (Some (Err e)) new = (new ≡ []) × (0 < length old)

-- the iterator gave these items one after another
abbrev pub GivesCookies :
    List FieldValue → List (Result CookieFields NoMemory) → List FieldValue → Type 0
GivesCookies old [] new = old ≡ new
GivesCookies old (item ∷ more) new =
    (left : List FieldValue) × GivesCookie old (Some item) left × GivesCookies left more new

abbrev pub has_name : List ℕ → Option CookieFields → Bool
has_name name None = false
has_name name (Some cookie) = bytes_eq cookie.name name

-- the value says a cookie of this name
abbrev pub deletes : List ℕ → FieldValue → Bool
deletes name value = has_name name (cookie_in value)

abbrev pub kept_cookies : List ℕ → List FieldValue → List FieldValue
kept_cookies name values = filter (λ value. not (deletes name value)) values

abbrev pub deleted_count : List ℕ → List FieldValue → ℕ
deleted_count name values = length (filter (deletes name) values)

-- Set-Cookie with these values, where there are any
abbrev pub cookie_entries : List FieldValue → Headers
cookie_entries [] = []
cookie_entries (value ∷ more) = (codes "set-cookie", value ∷ more) ∷ []

-- the headers without their Set-Cookie, and after them one with these values
abbrev pub with_cookies : Headers → List FieldValue → Headers
with_cookies m values = remove m (codes "set-cookie") ++ cookie_entries values

-- the headers without the cookies of this name; where there is none, as they are
abbrev pub without_cookies : List ℕ → Headers → Headers
without_cookies name m =
    let values = get_all m (codes "set-cookie") in
    if deleted_count name values == 0 then m else with_cookies m (kept_cookies name values)

-- the headers with these values of Set-Cookie in place of their own
pub record HasCookies (old : Headers) (values : List FieldValue) (new : Headers) : Type 0 where
  pub cookies : get_all new (codes "set-cookie") ≡ values
  pub others : (name : List ℕ) → name ≢ codes "set-cookie" → get_all new name ≡ get_all old name

-- the response with other headers
abbrev pub with_headers : {B : Type 0} → Headers → Reply B → Reply B
with_headers m r = record r { head = record (r.head) { headers = m } }

-- each cookie of this name is taken back, and all else stays
pub record DeletesCookies {B : Type 0} (name : List ℕ) (old : Reply B) (n : ℕ) (new : Reply B)
    : Type 0 where
  pub headers :
      HasCookies old.head.headers
      (kept_cookies name (get_all old.head.headers (codes "set-cookie"))) new.head.headers
  pub entries : new.head.headers ≡ without_cookies name old.head.headers
  pub rest : new ≡ with_headers new.head.headers old
  pub count : n ≡ deleted_count name (get_all old.head.headers (codes "set-cookie"))

-- What a call that takes such a step of the headers returns, and the response that it leaves: that
-- with the new headers, or the old one.
abbrev pub ReplyStepsTo : {B : Type 0} → (Headers → Result Headers HttpError)
    → Reply B → Result (Unit {0}) (Fail HttpError) → Reply B → Type 0
ReplyStepsTo step old (Ok done) new =
    (step old.head.headers ≡ Ok new.head.headers) × (new ≡ with_headers new.head.headers old)
ReplyStepsTo step old (Err fail.NoMemory) new = new ≡ old
ReplyStepsTo step old (Err (fail.Of e)) new = (step old.head.headers ≡ Err e) × (new ≡ old)

abbrev pub AddsCookie : {B : Type 0} → CookieFields
    → Reply B → Result (Unit {0}) (Fail HttpError) → Reply B → Type 0
AddsCookie cookie old result new =
    ReplyStepsTo (place_one Append (cookie_header cookie)) old result new

-- a cookie is added that removes another one at this second
abbrev pub AddsRemoving : {B : Type 0} → ℕ → CookieFields
    → Reply B → Result (Unit {0}) (Fail HttpError) → Reply B → Type 0
AddsRemoving moment cookie old result new =
    (removal : CookieFields) × IsRemoval moment cookie removal × AddsCookie removal old result new

-- the same, or allocation failed
abbrev pub AddsRemoval : {B : Type 0} → ℕ → CookieFields
    → Reply B → Result (Unit {0}) (Fail HttpError) → Reply B → Type 0
AddsRemoval moment cookie old (Ok done) new = AddsRemoving moment cookie old (Ok done) new
AddsRemoval moment cookie old (Err fail.NoMemory) new = new ≡ old
AddsRemoval moment cookie old (Err (fail.Of e)) new =
    AddsRemoving moment cookie old (Err (fail.Of e)) new
