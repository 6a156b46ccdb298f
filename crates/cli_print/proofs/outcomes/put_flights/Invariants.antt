use Rattle.std.proofs.Common.{◌≡◌, ◌++◌, map, take}
use Rattle.std.specs.List.{flat_map, enumerate_from}
use Rattle.web_worker.specs.Flights.{flight_outcome}
use Rattle.cli_print.specs.OutcomeText.{exchange_text}
use Rattle.cli_print.proofs.outcomes.put_flights.Given as goal

abbrev pub invariant-loop-number : goal.invariant-loop-number
invariant-loop-number g l = l.out.items ≡ l.initial.out.items ++ flat_map exchange_text (enumerate_from 0 (map (λ f. flight_outcome f) (take l.number l.flights)))
