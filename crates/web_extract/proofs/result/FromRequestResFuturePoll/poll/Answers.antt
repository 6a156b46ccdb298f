use Rattle.std.proofs.Common.{refl, Ok, Err}
use Rattle.web_extract.proofs.result.FromRequestResFuturePoll.poll.Goals.{in-Pending, in-Ready-Ok, in-Ready-Err, in-NoMemory}
use Rattle.web_extract.proofs.result.FromRequestResFuturePoll.poll.Goals as goal

pub returns-clause-value : goal.returns-clause-value
returns-clause-value g c =
    elim c.match-poll.branch [
      | in-Pending w ↦ rw w.result-is tt
      | in-Ready-Ok w ↦ rw w.result-is (Ok w.in-Ready-Ok.value, rw (w.in-Ready-Ok.field-0-is, c.self.view_is) at w.in-Ready-Ok.ensures.value, refl)
      | in-Ready-Err w ↦ rw w.result-is (Err w.in-Ready-Err.e, rw (w.in-Ready-Err.field-0-is, c.self.view_is) at w.in-Ready-Err.ensures.value, (_, w.into.ensures, refl))
      | in-NoMemory w ↦ rw w.result-is tt
    ]

pub returns-clause-shift : goal.returns-clause-shift
returns-clause-shift g c =
    elim c.match-poll.branch [
      | in-Pending w ↦ rw w.result-is (let later = rw c.self.view_is at w.in-Pending.ensures.shift in λ n x h. (h.0, later n h.0 h.1, h.2))
      | in-Ready-Ok w ↦ rw w.result-is tt
      | in-Ready-Err w ↦ rw w.result-is tt
      | in-NoMemory w ↦ rw w.result-is tt
    ]
