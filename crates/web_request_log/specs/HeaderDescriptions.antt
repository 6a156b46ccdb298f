-- Header fields as a log shows them.
use Rattle.std.specs.Prelude.{ℕ, ◌++◌, ◌||◌, Bool, List, [], ◌∷◌, codes, flat_map, if◌then◌else◌}
use Rattle.std.specs.Str.{bytes_eq}
use Rattle.hex.specs.Hex.{encode_lower}
use Rattle.http_header.specs.FieldValue.{FieldValue}
use Rattle.http_header.specs.HeaderMap.{Entries, get_all, keys}
use Rattle.http_header.specs.Token.{is_visible_or_blank}
use Rattle.web_request_log.specs.SortedNames.{sorted_names}

abbrev pub newline : List ℕ
newline = 10 ∷ []

-- a backslash, `x` and two digits for a byte that is no header text
abbrev pub shown_byte : ℕ → List ℕ
shown_byte b = if is_visible_or_blank b then b ∷ [] else 92 ∷ 120 ∷ encode_lower (b ∷ [])

abbrev pub shown_bytes : List ℕ → List ℕ
shown_bytes bytes = flat_map shown_byte bytes

-- the fields whose values stay secret
abbrev pub is_secret : List ℕ → Bool
is_secret name =
    bytes_eq name (codes "authorization")
    || (bytes_eq name (codes "proxy-authorization") || bytes_eq name (codes "cookie"))

abbrev pub shown_value : List ℕ → List ℕ → List ℕ
shown_value name value = if is_secret name then codes "*redacted*" else shown_bytes value

abbrev pub header_line : List ℕ → FieldValue → List ℕ
header_line name value =
    codes "    " ++ name ++ codes ": " ++ shown_value name value.bytes ++ newline

-- the values of one name, in their order
abbrev pub name_lines : Entries FieldValue → List ℕ → List ℕ
name_lines headers name = flat_map (header_line name) (get_all headers name)

abbrev pub header_lines : Entries FieldValue → List ℕ
header_lines headers = flat_map (name_lines headers) (sorted_names (keys headers))
