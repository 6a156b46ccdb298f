use Rattle.web_texts.specs.declared.errors.InvalidHeaderValue.{InvalidHeaderValue}
use Rattle.web_variants.proofs.PrintedHeaderLemmas.{value_fails, value_fits}
use Rattle.web_variants.proofs.printed_headers.value_of.Goals as goal

pub returns-in-Ok : goal.returns-in-Ok
returns-in-Ok g c = value_fits InvalidHeaderValue (g.T.Display.output c.args.item.now) c.in-Ok.value c.in-Ok.ensures c.as_bytes-bytes.ensures.valid

pub returns-in-Err : goal.returns-in-Err
returns-in-Err g c = value_fails {E = InvalidHeaderValue} (g.T.Display.output c.args.item.now) c.in-Err.error c.in-Err.ensures
