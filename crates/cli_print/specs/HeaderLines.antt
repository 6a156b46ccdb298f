-- The lines of headers: the names in the order of their bytes, each with its values.
use Rattle.std.specs.Prelude.{ℕ, ◌&&◌, Bool, true, List, [], ◌∷◌, ◌++◌, codes, flat_map}
use Rattle.http_header.specs.FieldValue.{FieldValue}
use Rattle.http_header.specs.HeaderMap.{Entries, keys, get_all}
use Rattle.web_request_log.specs.SortedNames.{before, sorted_names}
use Rattle.cli_print.specs.TextLines.{line_text}

abbrev pub header_line : List ℕ → FieldValue → List ℕ
header_line name value = line_text (name ++ codes ": ") value.bytes

abbrev pub pair_line : List ℕ × FieldValue → List ℕ
pair_line pair = header_line pair.0 pair.1

-- the values of one name, in their order
abbrev pub name_lines : Entries FieldValue → List ℕ → List ℕ
name_lines headers name = flat_map (header_line name) (get_all headers name)

abbrev pub header_lines : Entries FieldValue → List ℕ
header_lines headers = flat_map (name_lines headers) (sorted_names (keys headers))

-- a name precedes the first of these, and each of these the next
abbrev pub is_increasing_from : List ℕ → List (List ℕ) → Bool
is_increasing_from a [] = true
is_increasing_from a (b ∷ names) = before a b && is_increasing_from b names

-- each name precedes the next
abbrev pub is_increasing : List (List ℕ) → Bool
is_increasing [] = true
is_increasing (a ∷ names) = is_increasing_from a names
