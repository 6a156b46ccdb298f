use Rattle.std.proofs.Common.{Err, ap}
use Rattle.cli_script.proofs.AcceptanceLemmas.{none_unless, some_unless}
use Rattle.cli_script.proofs.LineArgumentsLemmas.{method_read, method_refused}
use Rattle.cli_script.proofs.exchange.read_method.Goals as goal

pub returns-in-Ok : goal.returns-in-Ok
returns-in-Ok c = (none_unless _ _ (method_read c.args.text.now (λ no. let bad = c.in-Ok.ensures.invalid.1 no in absurd (cc))), c.in-Ok.ensures.ok)

pub returns-in-Err-Invalid : goal.returns-in-Err-Invalid
returns-in-Err-Invalid c = some_unless _ _ (method_refused c.args.text.now (c.in-Err-Invalid.ensures.invalid.0 (ap Err c.in-Err-Invalid.field-0-is)))
