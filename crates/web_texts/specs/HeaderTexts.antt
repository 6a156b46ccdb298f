-- The text of the values of a header.
use Rattle.std.specs.Prelude.{ℕ, List, [], ◌∷◌, map, Option, None, Some, if◌then◌else◌}
use Rattle.http_header.specs.FieldValue.{FieldValue, is_visible_text}
use Rattle.http_header.specs.HeaderMap.{Entries, get_all}

abbrev pub value_bytes : List FieldValue → List (List ℕ)
value_bytes values = map (λ v. v.bytes) values

-- the text of the bytes of a value, where they are header text: visible ASCII, spaces and tabs
abbrev pub header_text_of : List ℕ → Option (List ℕ)
header_text_of bytes = if is_visible_text bytes then Some bytes else None

abbrev pub header_text : FieldValue → Option (List ℕ)
header_text value = header_text_of value.bytes

-- the first value, if there is one and it is header text
abbrev pub first_text_of : List (List ℕ) → Option (List ℕ)
first_text_of [] = None
first_text_of (first ∷ more) = header_text_of first

-- the first value of a name, if there is one and it is header text
abbrev pub first_text : Entries FieldValue → List ℕ → Option (List ℕ)
first_text fields name = first_text_of (value_bytes (get_all fields name))
