use Rattle.web_extract.proofs.CappedLemmas.{shift_wrapped, value_wrapped}
use Rattle.web_extract.proofs.body.capped_argument.CappedFutPoll.poll.Goals as goal

pub returns-clause-value : goal.returns-clause-value
returns-clause-value g c = rw (← c.self.view_is) (value_wrapped (g.Fut.Poll.gives c.self.inside.fut) _ _ c.wrap_step.ensures c.poll.ensures.value)

pub returns-clause-shift : goal.returns-clause-shift
returns-clause-shift g c = rw (← c.self.view_is) (shift_wrapped (g.Fut.Poll.gives c.self.inside.fut) (g.Fut.Poll.gives c.poll.new.self) _ _ c.wrap_step.ensures c.poll.ensures.shift)
