use Rattle.std.proofs.Common.{rules}
use Rattle.std.specs.Prelude.{Some, None}
use Rattle.web_request.proofs.PoolLemmas.{keeps_taken, keeps_as_before, shorter}
use Rattle.web_request.proofs.records.pool.HttpRequestPool.start.Goals as goal

pub invariant_of-self : goal.invariant_of-self
invariant_of-self g c = (
  keeps_taken c.self.invariant.0 _ _ (Some c.in-Some.request) _ _ c.in-Some.ensures.items
      (shorter _ _ _ c.pop.ensures.rest c.self.inside.kept.ok.0)
      c.take_number.ensures.numbers c.pop.ensures.capacity c.take_number.ensures.capacity,
  c.self.invariant.1,
)

pub invariant_of-self-in-Err : goal.invariant_of-self-in-Err
invariant_of-self-in-Err g c = (keeps_as_before c.self.invariant.0 _ _ (search rules) (search rules), c.self.invariant.1)

pub invariant_of-self-in-Ok-fresh : goal.invariant_of-self-in-Ok-fresh
invariant_of-self-in-Ok-fresh g c = (
  keeps_taken c.self.invariant.0 _ _ None _ _ c.in-None.ensures.items
      (shorter _ _ _ c.pop.ensures.rest c.self.inside.kept.ok.0)
      c.take_number-in-Ok-fresh.ensures.numbers c.pop.ensures.capacity c.take_number-in-Ok-fresh.ensures.capacity,
  c.self.invariant.1,
)
