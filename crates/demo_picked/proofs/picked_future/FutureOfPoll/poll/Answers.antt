use Rattle.std.specs.Prelude.{◌≡◌}
use Rattle.web_extract.proofs.ConvertedFuturesLemmas.{step_shifts, step_value}
use Rattle.demo_picked.proofs.picked_future.FutureOfPoll.poll.Goals as goal

pub returns-clause-value : goal.returns-clause-value
returns-clause-value g c =
    step_value (λ v w. w ≡ g.T.IntoPicked.picked v) g.T.Error.Into.converts _ _ (g.T.Future.Poll.gives c.args.self.now)
    c.picked_step.ensures (rw c.self.view_is at c.poll.ensures.value)

pub returns-clause-shift : goal.returns-clause-shift
returns-clause-shift g c =
    step_shifts (λ v w. w ≡ g.T.IntoPicked.picked v) g.T.Error.Into.converts _ _
    (g.T.Future.Poll.gives c.args.self.now) (g.T.Future.Poll.gives c.poll.new.self)
    c.picked_step.ensures (rw c.self.view_is at c.poll.ensures.shift)
