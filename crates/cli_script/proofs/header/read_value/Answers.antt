use Rattle.std.proofs.Common.{refl}
use Rattle.cli_script.proofs.AcceptanceLemmas.{none_unless, some_unless}
use Rattle.cli_script.proofs.LineArgumentsLemmas.{value_read, value_unread}
use Rattle.cli_script.proofs.header.read_value.Goals as goal

pub returns-in-Ok : goal.returns-in-Ok
returns-in-Ok c = (none_unless _ _ (value_read c.args.text (c.in-Ok.ensures.succeeds.0 refl)), c.in-Ok.ensures.ok)

pub returns-in-Err : goal.returns-in-Err
returns-in-Err c = some_unless _ _ (value_unread c.args.text (λ is. let made = c.in-Err.ensures.succeeds.1 is in absurd (cc)))
