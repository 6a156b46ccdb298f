use denote.Shadow.{shadow}
use denote.Text.{Utf8}
use Rattle.std.proofs.Common.{◌≡◌, ◌++◌, length}
use Rattle.std.specs.List.{flat_map, slice_split}
use Rattle.web_texts.specs.Bytes.{is_comma}
use Rattle.web_texts.specs.PieceItems.{item_of_piece, one_or_none}
use Rattle.web_entities.specs.ByteRanges.{byte_range_of, only_spec}
use Rattle.web_entities.proofs.ranges.only_range.Given as goal

abbrev pub invariant-parts : goal.invariant-parts
invariant-parts l = record {
  so_far : only_spec (one_or_none l.only ++ flat_map (item_of_piece byte_range_of) (slice_split is_comma l.rest))
      ≡ only_spec (flat_map (item_of_piece byte_range_of) (slice_split is_comma l.text));
  text : shadow (Utf8 l.rest);
}

abbrev pub decreases-parts : goal.decreases-parts
decreases-parts l = length l.rest
