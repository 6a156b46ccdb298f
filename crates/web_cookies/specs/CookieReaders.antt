-- The cookie that a text says, and why it says none.
use Rattle.std.specs.Prelude.{ℕ, Bool, true, false, List, Option, None, Some}
use Rattle.std.specs.Prelude.{Result, Ok, Err, if◌then◌else◌}
use Rattle.std.specs.Str.{is_utf8}
use Rattle.percent_encoding.specs.Percent.{percent_decode}
use Rattle.web_texts.specs.Blanks.{trimmed}
use Rattle.web_texts.specs.Cut.{split_once}
use Rattle.web_texts.specs.PieceItems.{is_empty}
use Rattle.web_cookies.specs.declared.cookie_parse_error.CookieParseError.{CookieParseError}
use Rattle.web_cookies.specs.declared.cookie_parse_error.CookieParseError.TheVariants.{MissingPair}
use Rattle.web_cookies.specs.declared.cookie_parse_error.CookieParseError.TheVariants.{EmptyName}
use Rattle.web_cookies.specs.declared.cookie_parse_error.CookieParseError.TheVariants.{Utf8}
use Rattle.web_texts.specs.Pairs.{Pair}
use Rattle.web_cookies.specs.CookieFields.{CookieFields, cookie_of_pair}
use Rattle.web_cookies.specs.Attributes.{attributes_of, with_attributes}

abbrev pub utf8_text : List ℕ → Result (List ℕ) CookieParseError
utf8_text text = if is_utf8 text then Ok text else Err Utf8

-- the text, percent-decoded where `encoded`, which must be UTF-8 then
abbrev pub decoded_text : Bool → List ℕ → Result (List ℕ) CookieParseError
decoded_text false text = Ok text
decoded_text true text = utf8_text (percent_decode text)

abbrev pub pair_of : Result (List ℕ) CookieParseError → Result (List ℕ) CookieParseError
    → Result Pair CookieParseError
pair_of (Ok name) (Ok value) = Ok (record { name = name; value = value })
pair_of (Ok name) (Err error) = Err error
pair_of (Err error) value = Err error

abbrev pub named : Bool → List ℕ → List ℕ → Result Pair CookieParseError
named encoded name value =
    if is_empty name then Err EmptyName
    else pair_of (decoded_text encoded name) (decoded_text encoded value)

abbrev pub pair_in : Bool → Option (List ℕ × List ℕ) → Result Pair CookieParseError
pair_in encoded None = Err MissingPair
pair_in encoded (Some halves) = named encoded (trimmed halves.0) (trimmed halves.1)

-- what the first part says: a name and a value round its first `=`, trimmed
abbrev pub pair_said : Bool → List ℕ → Result Pair CookieParseError
pair_said encoded part = pair_in encoded (split_once 61 part)

abbrev pub said_with : (CookieFields → CookieFields) → Result Pair CookieParseError
    → Result CookieFields CookieParseError
said_with f (Ok pair) = Ok (f (cookie_of_pair pair))
said_with f (Err error) = Err error

abbrev pub cookie_in : Bool → List ℕ → Option (List ℕ × List ℕ)
    → Result CookieFields CookieParseError
cookie_in encoded text None = said_with (λ cookie. cookie) (pair_said encoded text)
cookie_in encoded text (Some halves) =
    said_with (with_attributes (attributes_of halves.1)) (pair_said encoded halves.0)

-- The cookie that a text says: a pair before the first semicolon, percent-decoded where `encoded`,
-- and after it attributes.
abbrev pub cookie_said : Bool → List ℕ → Result CookieFields CookieParseError
cookie_said encoded text = cookie_in encoded text (split_once 59 text)
