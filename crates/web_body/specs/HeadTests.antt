-- What a head says of its body before any of it is read.
use Rattle.std.specs.Prelude.{ℕ, Bool, false, not, List, codes, Option, None, Some}
use Rattle.std.specs.Prelude.{if◌then◌else◌, nat_lt}
use Rattle.std.specs.Str.{str_eq_ignore_ascii_case}
use Rattle.http_header.specs.FieldValue.{FieldValue}
use Rattle.http_header.specs.HeaderMap.{Entries, get}
use Rattle.web_texts.specs.Blanks.{trimmed}
use Rattle.web_texts.specs.Digits.{digits_up_to}
use Rattle.web_body.specs.declared.message_body.PayloadError.{PayloadError}
use Rattle.web_body.specs.declared.message_body.PayloadError.TheVariants as payload
use Rattle.web_body.specs.declared.head_tests.Declared.{Declared}
use Rattle.web_body.specs.declared.head_tests.Declared.TheVariants.{Nothing, Unreadable, Length}

abbrev pub content_length : List ℕ
content_length = codes "content-length"

abbrev pub content_encoding : List ℕ
content_encoding = codes "content-encoding"

abbrev pub length_or_unreadable : Option ℕ → Declared
length_or_unreadable None = Unreadable
length_or_unreadable (Some n) = Length n

-- the length, by the first value of the header: digits alone, of at most a usize
abbrev pub declared_of : Option FieldValue → Declared
declared_of None = Nothing
declared_of (Some v) = length_or_unreadable (digits_up_to 18446744073709551615 v.bytes)

-- whether there is a coding, by the first value of the header
abbrev pub is_coded_of : Option FieldValue → Bool
is_coded_of None = false
is_coded_of (Some v) = not (str_eq_ignore_ascii_case (trimmed v.bytes) (codes "identity"))

abbrev pub coding_refusal : Bool → Option PayloadError
coding_refusal is_coded = if is_coded then Some payload.UnsupportedEncoding else None

-- the first test that applies: of the length, of the length under the limit, of the coding
abbrev pub head_refusal : Declared → Bool → ℕ → Option PayloadError
head_refusal Unreadable is_coded limit = Some payload.UnknownLength
head_refusal Nothing is_coded limit = coding_refusal is_coded
head_refusal (Length n) is_coded limit =
    if nat_lt limit n then Some payload.Overflow else coding_refusal is_coded

-- the refusal by these headers under a limit
abbrev pub refusal_by : Entries FieldValue → ℕ → Option PayloadError
refusal_by headers limit =
    head_refusal (declared_of (get headers content_length))
    (is_coded_of (get headers content_encoding)) limit
