use Rattle.demo_picked.proofs.BoxedFuturesLemmas.{ready_or_all, shifts_or_all}
use Rattle.demo_picked.proofs.boxed_future.BoxedFuture.poll.Goals as goal

pub returns-clause-value : goal.returns-clause-value
returns-clause-value g c =
    rw c.deref_mut.ensures.value at
    (ready_or_all c.poll.result (λ n y. g.F.Poll.gives c.deref_mut.result.now n y)
    c.poll.ensures.value)

pub returns-clause-shift : goal.returns-clause-shift
returns-clause-shift g c =
    rw c.deref_mut.ensures.value at
    (shifts_or_all c.poll.result (λ n y. g.F.Poll.gives c.deref_mut.result.now n y)
    (λ n y. g.F.Poll.gives c.poll.new.self n y) (g.F.Poll.is_finished c.poll.new.self)
    c.poll.ensures.ends (λ h. g.met.F.Poll.some c.poll.new.self h) c.poll.ensures.shift)
