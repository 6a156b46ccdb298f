use Rattle.std.proofs.Common.{◌≡◌, ◌≤◌, ◌++◌, map, length}
use Rattle.std.specs.Vec.{vec_capacity}
use Rattle.std.specs.Vec.Iter.{into_iter_items}
use Rattle.web_worker.specs.Flights.{flight_outcome}
use Rattle.web_worker.specs.Outcomes.{outcome_views}
use Rattle.web_worker.proofs.serving.collect_outcomes.Given as goal

abbrev pub invariant-loop-flight : goal.invariant-loop-flight
invariant-loop-flight g l = record {
  items : outcome_views g.A.Source.Source.feed l.outcomes.items ≡ map (λ f. flight_outcome f) l.yielded;
  count : length l.outcomes.items ≡ length l.yielded;
  rest : l.yielded ++ into_iter_items l.flight-iterator ≡ l.fn.flights.items;
  room : length l.fn.flights.items ≤ vec_capacity l.outcomes;
}
