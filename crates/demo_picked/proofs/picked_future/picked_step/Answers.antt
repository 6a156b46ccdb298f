use Rattle.std.proofs.Common.{refl, Ok, Err}
use Rattle.demo_picked.proofs.picked_future.picked_step.Goals as goal

pub returns-in-Ready-Ok : goal.returns-in-Ready-Ok
returns-in-Ready-Ok g c =
    rw (c.in-Ready-Ok.is, c.in-Ready-Ok.field-0-is)
    (Ok c.into_picked.result, (c.into_picked.result, c.into_picked.ensures, refl), refl)

pub returns-in-Ready-Err : goal.returns-in-Ready-Err
returns-in-Ready-Err g c =
    rw (c.in-Ready-Err.is, c.in-Ready-Err.field-0-is)
    (Err c.into.result, (c.into.result, c.into.ensures, refl), refl)
