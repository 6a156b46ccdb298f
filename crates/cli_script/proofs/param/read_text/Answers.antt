use Rattle.cli_script.proofs.AcceptanceLemmas.{none_unless, some_unless}
use Rattle.cli_script.proofs.LineArgumentsLemmas.{text_read, text_refused}
use Rattle.cli_script.proofs.param.read_text.Goals as goal

pub returns-in-Ok : goal.returns-in-Ok
returns-in-Ok c = (none_unless _ _ (text_read c.args.bytes.now c.in-Ok.ensures.cases.1), c.in-Ok.ensures.cases.0)

pub returns-in-Err : goal.returns-in-Err
returns-in-Err c = some_unless _ _ (text_refused c.args.bytes.now c.in-Err.ensures.cases.0)
