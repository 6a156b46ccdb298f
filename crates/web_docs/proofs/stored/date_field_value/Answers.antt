use Rattle.std.proofs.Common.{sym, ◌∙◌}
use Rattle.web_docs.proofs.FieldValueLemmas.{date_unvalued, date_valued}
use Rattle.web_docs.proofs.stored.date_field_value.Goals as goal

pub returns : goal.returns
returns c = date_valued c.args.date c.in-Some.value (sym c.in-Some.is ∙ c.in_ok-printed.ensures)

pub unreachable-requires : goal.unreachable-requires
unreachable-requires c = date_unvalued c.args.date (sym c.in-None.is ∙ c.in_ok-printed.ensures)
