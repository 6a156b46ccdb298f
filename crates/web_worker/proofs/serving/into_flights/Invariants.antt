use Rattle.std.proofs.Common.{◌≡◌, ◌≤◌, ◌++◌, map, length}
use Rattle.std.specs.Vec.{vec_capacity}
use Rattle.std.specs.Vec.Iter.{into_iter_items}
use Rattle.web_worker.specs.Exchanges.{FlightView.Waiting}
use Rattle.web_worker.proofs.serving.into_flights.Given as goal

abbrev pub invariant-loop-exchange : goal.invariant-loop-exchange
invariant-loop-exchange g l = record {
  items : l.flights.items ≡ map (λ x. Waiting x) l.yielded;
  rest : l.yielded ++ into_iter_items l.exchange-iterator ≡ l.fn.exchanges.items;
  room : length l.fn.exchanges.items ≤ vec_capacity l.flights;
}
