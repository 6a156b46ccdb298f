use denote.Shadow.{shadow}
use denote.Text.{Utf8}
use Rattle.std.proofs.Common.{◌≡◌, ◌++◌, length}
use Rattle.std.specs.List.{flat_map, slice_split}
use Rattle.web_texts.specs.Bytes.{is_comma}
use Rattle.web_texts.specs.PieceItems.{item_of_piece}
use Rattle.web_texts.proofs.grammar.piece_items.push_items.Given as goal

abbrev pub invariant-parts : goal.invariant-parts
invariant-parts g l = record {
  so_far : l.out.items ++ flat_map (item_of_piece g.T.ReadText.reads) (slice_split is_comma l.rest)
      ≡ l.initial.out.items ++ flat_map (item_of_piece g.T.ReadText.reads) (slice_split is_comma l.text);
  text : shadow (Utf8 l.rest);
}

abbrev pub decreases-parts : goal.decreases-parts
decreases-parts g l = length l.rest
