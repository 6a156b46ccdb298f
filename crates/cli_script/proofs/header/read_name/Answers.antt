use Rattle.std.proofs.Common.{Err, ap}
use Rattle.cli_script.proofs.AcceptanceLemmas.{none_unless, some_unless}
use Rattle.cli_script.proofs.LineArgumentsLemmas.{name_read, name_unread}
use Rattle.cli_script.proofs.header.read_name.Goals as goal

pub returns-in-Ok : goal.returns-in-Ok
returns-in-Ok c = (none_unless _ _ (name_read c.args.text.now (λ no. let bad = c.in-Ok.ensures.invalid.1 no in absurd (cc))), c.in-Ok.ensures.ok)

pub returns-in-Err-Invalid : goal.returns-in-Err-Invalid
returns-in-Err-Invalid c = some_unless _ _ (name_unread c.args.text.now (c.in-Err-Invalid.ensures.invalid.0 (ap Err c.in-Err-Invalid.field-0-is)))
