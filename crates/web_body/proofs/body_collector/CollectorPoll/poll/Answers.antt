use Rattle.web_body.specs.HeldBytes.{held_bytes}
use Rattle.web_body.proofs.CollectorMemoryLemmas.{stall_needs_none, stall_is_pending}
use Rattle.web_body.proofs.body_collector.CollectorPoll.poll.Goals as goal

pub returns-clause-stalled : goal.returns-clause-stalled
returns-clause-stalled g c =
    rw (← c.self.view_is) (λ next.
    stall_is_pending c.self.inside.limit _ (held_bytes c.self.inside.held) _ c.self.invariant next c.collect-step.ensures.reads.0
    (c.collect-step.ensures.memory (stall_needs_none _ _ next)))
