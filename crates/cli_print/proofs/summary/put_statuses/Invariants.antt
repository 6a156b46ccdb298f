use Rattle.std.proofs.Common.{◌≡◌, ◌++◌, map}
use Rattle.std.specs.List.{flat_map, range_with_len}
use Rattle.web_worker.specs.Flights.{flight_outcome}
use Rattle.cli_print.specs.SummaryText.{status_line}
use Rattle.cli_print.proofs.summary.put_statuses.Given as goal

abbrev pub invariant-loop-place : goal.invariant-loop-place
invariant-loop-place g l =
    l.out.items ≡ l.initial.out.items
    ++ flat_map (status_line (map (λ f. flight_outcome f) l.fn.flights)) (range_with_len 100 l.place)
