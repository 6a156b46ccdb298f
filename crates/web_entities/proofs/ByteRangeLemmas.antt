-- The only range between the commas of a text.
use Rattle.std.proofs.Common.{◌≡◌, ◌∙◌, refl, ap, sym, ℕ, true, false, List, ◌∷◌, ◌++◌, Option, None, Some, is_some, append_assoc}
use Rattle.std.specs.List.{flat_map, slice_split}
use Rattle.web_texts.specs.Bytes.{is_comma}
use Rattle.web_texts.specs.PieceItems.{item_of_piece, one_or_none}
use Rattle.web_texts.specs.Pieces.{pieces}
use Rattle.web_headers.specs.HeaderReaders.{each_comma}
use Rattle.web_headers.proofs.ValueListLemmas.{comma_pieces}
use Rattle.web_entities.specs.ByteRanges.{byte_range_of, only_spec}
use Rattle.web_entities.specs.declared.ranges.ByteRangeSpec.{ByteRangeSpec}

abbrev pub specs_of : List (List ℕ) → List ByteRangeSpec
specs_of pieces = flat_map (item_of_piece byte_range_of) pieces

pub split_specs : (text piece : List ℕ) (more : List (List ℕ)) → pieces each_comma (record {}) text ≡ piece ∷ more
    → specs_of (slice_split is_comma text) ≡ item_of_piece byte_range_of piece ++ specs_of more
split_specs text piece more cut = ap specs_of (sym (comma_pieces text) ∙ cut)

pub only_back : (only : Option ByteRangeSpec) → only_spec (one_or_none only) ≡ only
only_back None = refl
only_back (Some spec) = refl

pub taken : (only : Option ByteRangeSpec) (spec : ByteRangeSpec) → is_some only ≡ false → one_or_none only ++ one_or_none (Some spec) ≡ one_or_none (Some spec)
taken None spec e = refl
taken (Some other) spec e = absurd (cc)

second : (only : Option ByteRangeSpec) (spec : ByteRangeSpec) (more : List ByteRangeSpec) → is_some only ≡ true → only_spec (one_or_none only ++ spec ∷ more) ≡ None
second None spec more e = absurd (cc)
second (Some other) spec more e = refl

-- A text begins with a piece. The ranges so far come before those of the text.
module _ (only : Option ByteRangeSpec) (text piece : List ℕ) (more : List ByteRangeSpec) (all : Option ByteRangeSpec) (split : specs_of (slice_split is_comma text) ≡ item_of_piece byte_range_of piece ++ more) (so_far : only_spec (one_or_none only ++ specs_of (slice_split is_comma text)) ≡ all) where
  pub one_piece_more : (found next : Option ByteRangeSpec) → one_or_none found ≡ item_of_piece byte_range_of piece → one_or_none only ++ one_or_none found ≡ one_or_none next
      → only_spec (one_or_none next ++ more) ≡ all
  one_piece_more found next is joined =
      ap (λ l. only_spec (l ++ more)) (sym joined)
      ∙ ap only_spec (append_assoc (one_or_none only) (one_or_none found) more)
      ∙ ap (λ l. only_spec (one_or_none only ++ (l ++ more))) is
      ∙ ap (λ l. only_spec (one_or_none only ++ l)) (sym split)
      ∙ so_far

  pub two_ranges : (spec : ByteRangeSpec) → one_or_none (Some spec) ≡ item_of_piece byte_range_of piece → is_some only ≡ true → None ≡ all
  two_ranges spec is some =
      sym (second only spec more some)
      ∙ ap (λ l. only_spec (one_or_none only ++ (l ++ more))) is
      ∙ ap (λ l. only_spec (one_or_none only ++ l)) (sym split)
      ∙ so_far
