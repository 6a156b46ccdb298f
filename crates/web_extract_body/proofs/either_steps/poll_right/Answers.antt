use Rattle.std.proofs.Common.{refl, Ok, Err}
use Rattle.web_extract_body.proofs.either_steps.poll_right.Goals as goal

pub returns-in-Waits : goal.returns-in-Waits
returns-in-Waits g c =
    (c.in-Waits.ensures.0, λ n x h. (h.0, c.in-Waits.ensures.1 n h.0 h.1, h.2))

pub returns-in-Comes-Ok : goal.returns-in-Comes-Ok
returns-in-Comes-Ok g c =
    (Ok c.in-Comes-Ok.value, rw c.in-Comes-Ok.field-0-is at c.in-Comes-Ok.ensures, refl)

pub returns-in-Comes-Err : goal.returns-in-Comes-Err
returns-in-Comes-Err g c =
    (Err c.in-Comes-Err.e, rw c.in-Comes-Err.field-0-is at c.in-Comes-Err.ensures, refl)
