use Rattle.std.proofs.Common.{refl}
use Rattle.cli_script.proofs.script.read_script.Goals as goal

pub returns-clause-read : goal.returns-clause-read
returns-clause-read c =
    let read = c.in_ok-plan.ensures.read in
    (read.0, rw (c.in_ok-plan.ensures.added _ c.new-exchanges.ensures.items, read.1) refl)

pub returns-clause-bodies : goal.returns-clause-bodies
returns-clause-bodies c = rw (c.in_ok-plan.ensures.added _ c.new-exchanges.ensures.items) c.in_ok-plan.ensures.bodies

pub returns-clause-small : goal.returns-clause-small
returns-clause-small c = rw (c.in_ok-plan.ensures.added _ c.new-exchanges.ensures.items) c.in_ok-plan.ensures.small

pub returns-clause-total : goal.returns-clause-total
returns-clause-total c = rw (c.in_ok-plan.ensures.added _ c.new-exchanges.ensures.items) c.in_ok-plan.ensures.total
