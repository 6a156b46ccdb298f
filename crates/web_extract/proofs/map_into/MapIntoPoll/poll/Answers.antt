use Rattle.web_extract.proofs.ConvertedFuturesLemmas.{step_shifts, step_value}
use Rattle.web_extract.proofs.map_into.MapIntoPoll.poll.Goals as goal

pub returns-clause-value : goal.returns-clause-value
returns-clause-value g c =
    step_value g.T.Into.converts g.E.Into.converts _ _ (g.Fut.Poll.gives c.args.self.now)
    c.convert_step.ensures (rw c.self.view_is at c.poll.ensures.value)

pub returns-clause-shift : goal.returns-clause-shift
returns-clause-shift g c =
    step_shifts g.T.Into.converts g.E.Into.converts _ _
    (g.Fut.Poll.gives c.args.self.now) (g.Fut.Poll.gives c.poll.new.self)
    c.convert_step.ensures (rw c.self.view_is at c.poll.ensures.shift)
