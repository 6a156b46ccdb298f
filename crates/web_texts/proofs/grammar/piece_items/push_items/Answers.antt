use Rattle.std.proofs.Common.{rules}
use Rattle.std.proofs.lemmas.Result.{IfOk-weaker}
use Rattle.web_texts.specs.PieceItems.{item_of_piece}
use Rattle.web_texts.proofs.SplitLemmas.{part_more, part_last}
use Rattle.web_texts.proofs.grammar.piece_items.push_items.Goals as goal

pub parts-preserved : goal.parts-preserved
parts-preserved g c = record {
  so_far = part_more (item_of_piece g.T.ReadText.reads) 44 c.parts.rest.now c.in-Some.part.now c.in-Some.after.now c.parts.out.items c.push_readable.new.out.items _ c.in-Some.ensures c.parts.invariant.so_far c.in_ok-push_readable-in-Some.ensures;
  text = search rules;
}

pub returns-in-None : goal.returns-in-None
returns-in-None g c =
    IfOk-weaker c.push_readable-in-None.result _ _ (λ _ e. part_last (item_of_piece g.T.ReadText.reads) 44 c.parts.rest.now c.parts.out.items c.push_readable-in-None.new.out.items _ c.in-None.ensures c.parts.invariant.so_far e) c.push_readable-in-None.ensures
