use denote.Shadow.{shadow}
use denote.Text.{Utf8}
use Rattle.std.proofs.Common.{◌≡◌, ◌++◌, length}
use Rattle.std.specs.List.{flat_map, list_all}
use Rattle.web_texts.specs.Pieces.{pieces}
use Rattle.web_texts.specs.PieceItems.{is_readable, item_of_piece}
use Rattle.web_texts.proofs.grammar.piece_items.read_each.Given as goal

abbrev pub invariant-parts : goal.invariant-parts
invariant-parts g l = record {
  so_far : l.out.items ++ flat_map (item_of_piece g.T.ReadText.reads) (pieces g.M.Mode.rule g.M.Mode.rule.start l.rest)
      ≡ flat_map (item_of_piece g.T.ReadText.reads) (pieces g.M.Mode.rule g.M.Mode.rule.start l.text);
  readable : list_all (is_readable g.T.ReadText.reads) (pieces g.M.Mode.rule g.M.Mode.rule.start l.rest)
      ≡ list_all (is_readable g.T.ReadText.reads) (pieces g.M.Mode.rule g.M.Mode.rule.start l.text);
  text : shadow (Utf8 l.rest);
}

abbrev pub decreases-parts : goal.decreases-parts
decreases-parts g l = length l.rest
