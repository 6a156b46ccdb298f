-- Range (RFC 9110, section 14.2).
use Rattle.std.specs.Prelude.{ℕ, ◌||◌, List, [], ◌∷◌, ◌++◌, nat_le, flat_map, codes, decimal, map}
use Rattle.std.specs.Prelude.{Option, None, Some, if◌then◌else◌}
use Rattle.std.specs.Option.{option_map, option_and_then}
use Rattle.std.specs.List.{slice_split, join_by}
use Rattle.std.specs.Str.{bytes_eq}
use Rattle.web_texts.specs.Bytes.{is_comma}
use Rattle.web_texts.specs.Cut.{split_once}
use Rattle.web_texts.specs.Digits.{number_of}
use Rattle.web_texts.specs.PieceItems.{is_empty, item_of_piece}
use Rattle.web_entities.specs.declared.ranges.ByteRangeSpec.{ByteRangeSpec}
use Rattle.web_entities.specs.declared.ranges.ByteRangeSpec.TheVariants as spec
use Rattle.web_entities.specs.declared.ranges.Range.{Range}
use Rattle.web_entities.specs.declared.ranges.Range.TheVariants as kind

-- two numbers, the second not less
abbrev pub pair_of : List ℕ → List ℕ → Option (ℕ × ℕ)
pair_of first last =
    option_and_then (λ a. option_and_then (λ b. if nat_le a b then Some (a, b) else None)
    (number_of last)) (number_of first)

-- `-n`, `a-`, or `a-b` with a at most b, split at the first dash
abbrev pub byte_range_of : List ℕ → Option ByteRangeSpec
byte_range_of text = option_and_then (λ parts.
    if is_empty parts.0 then option_map spec.Last (number_of parts.1)
    else if is_empty parts.1 then option_map spec.From (number_of parts.0)
    else option_map (λ p. spec.FromTo p.0 p.1) (pair_of parts.0 parts.1)) (split_once 45 text)

-- some byte range
abbrev pub bytes_of : List ByteRangeSpec → Option Range
bytes_of [] = None
bytes_of (first ∷ more) = Some (kind.Bytes (first ∷ more))

-- `bytes=` and byte ranges at commas, of which those that cannot be read are left out and some is
-- left (the RFC has the whole header invalid); or another unit, `=` and a text, both not empty.
abbrev pub range_of : List ℕ → Option Range
range_of text = option_and_then (λ parts.
    if bytes_eq parts.0 (codes "bytes")
    then bytes_of (flat_map (item_of_piece byte_range_of) (slice_split is_comma parts.1))
    else if is_empty parts.0 || is_empty parts.1 then None
    else Some (kind.Unregistered parts.0 parts.1)) (split_once 61 text)

abbrev pub byte_range_text : ByteRangeSpec → List ℕ
byte_range_text (spec.FromTo a b) = decimal a ++ codes "-" ++ decimal b
byte_range_text (spec.From a) = decimal a ++ codes "-"
byte_range_text (spec.Last n) = codes "-" ++ decimal n

abbrev pub range_text : Range → List ℕ
range_text (kind.Bytes specs) = codes "bytes=" ++ join_by byte_range_text (44 ∷ []) specs
range_text (kind.Unregistered unit rest) = unit ++ codes "=" ++ rest

-- a byte range from the first to the second of each pair
abbrev pub from_pairs : List (ℕ × ℕ) → List ByteRangeSpec
from_pairs pairs = map (λ p. spec.FromTo p.0 p.1) pairs

-- the item of a list of one
abbrev pub only_spec : List ByteRangeSpec → Option ByteRangeSpec
only_spec (spec ∷ []) = Some spec
only_spec other = None

-- one range of bytes
abbrev pub one_range : Option Range → Option ByteRangeSpec
one_range (Some (kind.Bytes specs)) = only_spec specs
one_range other = None
