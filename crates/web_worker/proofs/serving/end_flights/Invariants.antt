use Rattle.std.proofs.Common.{◌≡◌, drop, length, map, take}
use Rattle.web_worker.specs.Exchanges.{FlightView.Answered}
use Rattle.web_worker.specs.Flights.{flight_outcome}
use Rattle.web_worker.specs.PoolRun.{return_held, serial_state}
use Rattle.web_worker.proofs.serving.end_flights.Given as goal

abbrev pub invariant-loop-flight : goal.invariant-loop-flight
invariant-loop-flight g l = record {
  pool : return_held l.pool (map (λ f. serial_state f) (drop l.flight-index l.fn.flights)) ≡ return_held l.fn.pool (map (λ f. serial_state f) l.fn.flights);
  ended : take l.flight-index l.flights ≡ map (λ f. Answered (flight_outcome f)) (take l.flight-index l.fn.flights);
  rest : drop l.flight-index l.flights ≡ drop l.flight-index l.fn.flights;
  size : length l.flights ≡ length l.fn.flights;
}
