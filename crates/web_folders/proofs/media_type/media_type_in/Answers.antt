use Rattle.std.proofs.Common.{◌∙◌, sym}
use Rattle.web_folders.proofs.MediaTypeLemmas.{type-behind, type-found, visible-behind}
use Rattle.web_folders.proofs.media_type.media_type_in.Goals as goal

pub returns-then-is_same-clause-value : goal.returns-then-is_same-clause-value
returns-then-is_same-clause-value c =
    sym (type-found c.args.rows.now c.loop-row.row-index c.args.extension.now _ c.loop-row-test.true (sym c.is_same.ensures ∙ c.if-is_same.true)) ∙ c.loop-row.invariant.value

pub loop-row-preserved : goal.loop-row-preserved
loop-row-preserved c = record {
  value = sym (type-behind c.args.rows.now c.loop-row.row-index c.args.extension.now _ c.loop-row-test.true (sym c.is_same.ensures ∙ c.if-is_same.false)) ∙ c.loop-row.invariant.value;
  visible = visible-behind c.args.rows.now c.loop-row.row-index c.loop-row-test.true c.loop-row.invariant.visible;
}
