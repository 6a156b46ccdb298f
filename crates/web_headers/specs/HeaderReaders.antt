-- What the values of one header's name say, in headers of one value and in lists.
use Rattle.std.specs.Prelude.{ℕ, true, List, [], ◌∷◌, map, filter, not, flat_map}
use Rattle.std.specs.Prelude.{Option, None, Some, if◌then◌else◌}
use Rattle.std.specs.Option.{option_and_then}
use Rattle.std.specs.List.{list_all, filter_map, slice_split}
use Rattle.http_header.specs.FieldValue.{is_visible_text}
use Rattle.web_texts.specs.Bytes.{is_comma}
use Rattle.web_texts.specs.Blanks.{trimmed}
use Rattle.web_texts.specs.HeaderTexts.{first_text_of}
use Rattle.web_texts.specs.Pieces.{Rule, pieces}
use Rattle.web_texts.specs.PieceItems.{is_empty, item_of_piece}
use Rattle.web_headers.specs.declared.value_readers.EachComma.{EachComma}

-- a text that is there and is not empty
abbrev pub one_text_of : {T : Type 0} → (List ℕ → Option T) → Option (List ℕ) → Option T
one_text_of read text = option_and_then (λ t. if is_empty t then None else read t) text

-- A header of one value is its first value, untrimmed, which is not empty.
abbrev pub one_value_of : {T : Type 0} → (List ℕ → Option T) → List (List ℕ) → Option T
one_value_of read values = one_text_of read (first_text_of values)

-- The items of all values in order: cut at commas, trimmed, and not empty (RFC 9110, section
-- 5.6.1).
abbrev pub comma_items : List (List ℕ) → List (List ℕ)
comma_items values =
    filter (λ item. not (is_empty item)) (map trimmed (flat_map (slice_split is_comma) values))

-- A value that is no header text refuses the whole list. Items that cannot be read are left out,
-- where the RFC has them invalid, and commas in quoted text cut too.
abbrev pub comma_list_of : {T : Type 0} → (List ℕ → Option T) → List (List ℕ) → Option (List T)
comma_list_of read values =
    if list_all is_visible_text values then Some (filter_map read (comma_items values)) else None

-- the same, cut where a rule says

abbrev pub items_of_value : {M T : Type 0} → Rule M → (List ℕ → Option T) → List ℕ → List T
items_of_value rule read value = flat_map (item_of_piece read) (pieces rule rule.start value)

abbrev pub piece_list_of : {M T : Type 0} → Rule M → (List ℕ → Option T) → List (List ℕ)
    → Option (List T)
piece_list_of rule read values =
    if list_all is_visible_text values then Some (flat_map (items_of_value rule read) values)
    else None

abbrev pub each_comma : Rule EachComma
each_comma = record { mark = 44; cuts = λ mode. true; next = λ mode b. mode; start = record {} }
