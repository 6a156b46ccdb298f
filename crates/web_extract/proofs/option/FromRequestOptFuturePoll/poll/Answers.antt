use Rattle.std.proofs.Common.{refl, Ok, Err}
use Rattle.web_extract.proofs.option.FromRequestOptFuturePoll.poll.Goals as goal

pub returns-in-Pending-clause-shift : goal.returns-in-Pending-clause-shift
returns-in-Pending-clause-shift g c = let later = rw c.self.view_is at c.in-Pending.ensures.shift in λ n x h. (h.0, later n h.0 h.1, h.2)

pub returns-in-Ready-Ok-clause-value : goal.returns-in-Ready-Ok-clause-value
returns-in-Ready-Ok-clause-value g c = (Ok c.in-Ready-Ok.value, rw (c.in-Ready-Ok.field-0-is, c.self.view_is) at c.in-Ready-Ok.ensures.value, refl)

pub returns-in-Ready-Err-clause-value : goal.returns-in-Ready-Err-clause-value
returns-in-Ready-Err-clause-value g c = (Err c.in-Ready-Err.field-0-0, rw (c.in-Ready-Err.field-0-is, c.self.view_is) at c.in-Ready-Err.ensures.value, refl)
