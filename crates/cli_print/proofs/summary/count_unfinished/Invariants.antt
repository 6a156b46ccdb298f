use Rattle.std.proofs.Common.{◌≡◌, map, take}
use Rattle.web_worker.specs.Flights.{flight_outcome}
use Rattle.cli_print.specs.SummaryText.{count_where, is_unfinished}
use Rattle.cli_print.proofs.summary.count_unfinished.Given as goal

abbrev pub invariant-loop-flight : goal.invariant-loop-flight
invariant-loop-flight g l =
    l.count ≡ count_where is_unfinished (map (λ f. flight_outcome f) (take l.flight-index l.flights))
