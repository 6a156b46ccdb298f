use Rattle.std.proofs.Common.{◌≡◌, ◌++◌}
use Rattle.std.specs.Vec.Iter.{into_iter_items}
use Rattle.web_cutting.specs.PoolCalls.{after_calls, in_use}
use Rattle.web_cutting.proofs.pool_calls.make_calls.Given as goal

abbrev pub invariant-loop-call : goal.invariant-loop-call
invariant-loop-call g l = record {
  so_far : in_use l.pool l.held.items ≡ after_calls (in_use l.fn.pool l.fn.held.items) l.yielded;
  rest : l.yielded ++ into_iter_items l.call-iterator ≡ l.fn.calls.items;
}
