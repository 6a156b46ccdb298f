use Rattle.std.proofs.Common.{◌≡◌, map, take}
use Rattle.web_worker.specs.Flights.{flight_outcome}
use Rattle.cli_print.specs.SummaryText.{has_status}
use Rattle.cli_print.proofs.CountLemmas.{AreCounts}
use Rattle.cli_print.proofs.summary.count_statuses.Given as goal

abbrev pub invariant-loop-flight : goal.invariant-loop-flight
invariant-loop-flight g l =
    AreCounts has_status 900 (map (λ f. flight_outcome f) (take l.flight-index l.flights)) l.counts.items
