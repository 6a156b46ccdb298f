-- The items of values, value by value.
use Rattle.std.proofs.Common.{◌≡◌, ℕ, Bool, true, false, not, List, [], ◌∷◌, ◌++◌, map, filter, cond, Option, None, Some, refl}
use Rattle.std.specs.List.{flat_map, filter_map, list_all, slice_split}
use Rattle.std.specs.Prelude.{slice_get}
use Rattle.std.proofs.lemmas.List.{map-append, append-nil}
use Rattle.std.proofs.lemmas.List.Elements.{filter-append, filter_map-append}
use Rattle.std.proofs.lemmas.List.Sums.{AllPass-from_list_all, list_all-from_AllPass}
use Rattle.http_header.specs.Token.{is_visible_or_blank}
use Rattle.http_header.specs.FieldValue.{FieldValue, IsVisibleAscii, is_visible_text}
use Rattle.web_texts.specs.Bytes.{is_comma}
use Rattle.web_texts.specs.Blanks.{trimmed}
use Rattle.web_texts.specs.Pieces.{Rule, pieces}
use Rattle.web_texts.specs.PieceItems.{is_empty, one_or_none, item_of_piece}
use Rattle.web_texts.specs.HeaderTexts.{value_bytes, header_text_of, first_text_of}
use Rattle.web_headers.specs.HeaderReaders.{items_of_value, comma_list_of, piece_list_of, each_comma, comma_items}

-- what the values that are left add, and whether all of them are text
pub record SaysRest {M T : Type 0} (rule : Rule M) (read : List ℕ → Option T) (out : List T) (left all : List FieldValue) : Type 0 where
  pub said : out ++ flat_map (items_of_value rule read) (value_bytes left) ≡ flat_map (items_of_value rule read) (value_bytes all)
  pub texts : list_all is_visible_text (value_bytes left) ≡ list_all is_visible_text (value_bytes all)

-- at each comma

pub comma_pieces : (text : List ℕ) → pieces each_comma (record {}) text ≡ slice_split is_comma text
comma_pieces [] = refl
comma_pieces (b ∷ rest) = rw (comma_pieces rest) refl

head_said : {T : Type 0} (read : List ℕ → Option T) (item : List ℕ) (empty : Bool) (said : Option T) (items : List (List ℕ)) → read item ≡ said
    → cond empty [] (one_or_none said) ++ filter_map read items ≡ filter_map read (cond (not empty) (item ∷ items) items)
head_said read item true said items e = refl
head_said read item false None items e = rw e refl
head_said read item false (Some x) items e = rw e refl

parts_said : {T : Type 0} (read : List ℕ → Option T) (parts : List (List ℕ))
    → flat_map (item_of_piece read) parts ≡ filter_map read (filter (λ item. not (is_empty item)) (map trimmed parts))
parts_said read [] = refl
parts_said read (part ∷ parts) =
    rw (parts_said read parts) (head_said read (trimmed part) (is_empty (trimmed part)) (read (trimmed part)) _ refl)

-- The items of all values are those of each value in turn.
values_said : {T : Type 0} (read : List ℕ → Option T) (values : List (List ℕ)) → flat_map (items_of_value each_comma read) values ≡ filter_map read (comma_items values)
values_said read [] = refl
values_said read (value ∷ values) =
    rw (
      map-append trimmed (slice_split is_comma value) (flat_map (slice_split is_comma) values),
      filter-append (λ item. not (is_empty item)) (map trimmed (slice_split is_comma value)) (map trimmed (flat_map (slice_split is_comma) values)),
      filter_map-append read (filter (λ item. not (is_empty item)) (map trimmed (slice_split is_comma value))) (filter (λ item. not (is_empty item)) (map trimmed (flat_map (slice_split is_comma) values))),
      ← parts_said read (slice_split is_comma value),
      ← values_said read values,
      comma_pieces value,
    ) refl

pub commas_said : {T : Type 0} (read : List ℕ → Option T) (values : List (List ℕ)) → piece_list_of each_comma read values ≡ comma_list_of read values
commas_said read values = rw (values_said read values) refl

one_said : {T : Type 0} (read : List ℕ → Option T) (text : List ℕ) → is_visible_text text ≡ true
    → Some (items_of_value each_comma read text) ≡ comma_list_of read (text ∷ [])
one_said read text visible =
    rw (← commas_said read (text ∷ []), visible, append-nil (items_of_value each_comma read text)) refl

-- what was read of one value, by a list that was empty before
pub one_read : {T : Type 0} (read : List ℕ → Option T) (text : List ℕ) (before after : List T) → is_visible_text text ≡ true
    → before ≡ [] → after ≡ before ++ items_of_value each_comma read text → Some after ≡ comma_list_of read (text ∷ [])
one_read read text before after visible none added = rw (added, none) (one_said read text visible)
