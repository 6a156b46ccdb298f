use Rattle.std.proofs.Common.{refl, Ok, Err}
use Rattle.web_extract.proofs.lists.tuple_one.list_step.Goals as goal

pub returns-in-Ready-Ok : goal.returns-in-Ready-Ok
returns-in-Ready-Ok g c =
    rw (c.in-Ready-Ok.is, c.in-Ready-Ok.field-0-is)
    (Ok record { 0 = c.in-Ready-Ok.value }, (record { 0 = c.in-Ready-Ok.value }, refl, refl), refl)

pub returns-in-Ready-Err : goal.returns-in-Ready-Err
returns-in-Ready-Err g c =
    let e = c.into in
    rw (c.in-Ready-Err.is, c.in-Ready-Err.field-0-is)
    (Err e.result, (e.result, e.ensures, refl), refl)
