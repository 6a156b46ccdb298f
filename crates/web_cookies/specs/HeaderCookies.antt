-- The cookies that the values of the header Cookie say (RFC 6265, section 5.4).
use Rattle.std.specs.Prelude.{ℕ, Bool, List, Result, Ok, Err, if◌then◌else◌}
use Rattle.std.specs.List.{flat_map, list_all, slice_split}
use Rattle.std.specs.Result.{result_ok}
use Rattle.std.specs.Str.{is_utf8}
use Rattle.http_header.specs.FieldValue.{FieldValue}
use Rattle.web_texts.specs.Bytes.{is_semicolon}
use Rattle.web_texts.specs.PieceItems.{item_of_piece}
use Rattle.web_cookies.specs.declared.cookie_parse_error.CookieParseError.{CookieParseError}
use Rattle.web_cookies.specs.declared.cookie_parse_error.CookieParseError.TheVariants.{Utf8}
use Rattle.web_texts.specs.Pairs.{Pair}
use Rattle.web_cookies.specs.CookieReaders.{pair_said}

-- the cookie that a part says, if it says one
abbrev pub cookie_of_part : Bool → List ℕ → List Pair
cookie_of_part encoded part = item_of_piece (λ text. result_ok (pair_said encoded text)) part

-- those that the parts between the semicolons say
abbrev pub cookies_in : Bool → List ℕ → List Pair
cookies_in encoded text = flat_map (cookie_of_part encoded) (slice_split is_semicolon text)

-- those of all values, in their order, where each value is UTF-8
abbrev pub cookies_said : Bool → List FieldValue → Result (List Pair) CookieParseError
cookies_said encoded values =
    if list_all (λ value. is_utf8 value.bytes) values
    then Ok (flat_map (λ value. cookies_in encoded value.bytes) values)
    else Err Utf8
