use Rattle.std.proofs.Common.{refl}
use Rattle.cli_script.proofs.LineArgumentsLemmas.{target_read, target_refused}
use Rattle.cli_script.proofs.exchange.read_target.Goals as goal

pub returns-in-Ok : goal.returns-in-Ok
returns-in-Ok c =
    let read = target_read c.args.text c.in-Ok.uri c.in-Ok.ensures.ok in
    (rw read refl, read)

pub returns-in-Err-Invalid : goal.returns-in-Err-Invalid
returns-in-Err-Invalid c =
    let none = target_refused c.args.text (rw c.in-Err-Invalid.field-0-is at c.in-Err-Invalid.ensures.err (λ no. absurd (cc))) in
    rw none refl
