use Rattle.std.proofs.Common.{◌≡◌, ◌∙◌, ◌+◌, ◌++◌, ap, map, arith}
use Rattle.web_worker.specs.Flights.{flight_outcome}
use Rattle.cli_print.specs.SummaryText.{count_text, status_line, statuses}
use Rattle.cli_print.proofs.CountLemmas.{kind_written}
use Rattle.cli_print.proofs.SummaryLemmas.{count_at_place, counts_size}
use Rattle.cli_print.proofs.summary.put_statuses.Goals as goal

pub loop-place-preserved : goal.loop-place-preserved
loop-place-preserved g c =
    let os = map (λ f. flight_outcome f) c.args.flights.now in
    let p = c.loop-place.place in
    let counts = c.deref-count-items.ensures.value ∙ c.in_ok-counts.ensures in
    let count = count_at_place os c.deref-count-items.result.now p counts c.loop-place-test.true in
    kind_written (status_line os) p c.args.out.now.items c.loop-place.out.items
    c.put_status.new.out.items c.loop-place.invariant
    (c.in_ok-put_status.ensures ∙ ap (λ n. c.loop-place.out.items ++ count_text (100 + p) n) count)

pub returns : goal.returns
unfolding statuses
returns g c =
    let os = map (λ f. flight_outcome f) c.args.flights.now in
    let counts = c.deref-count-items.ensures.value ∙ c.in_ok-counts.ensures in
    let size = counts_size os c.deref-count-items.result.now counts in
    let last : c.loop-place.place ≡ 900 =
    (let a = c.loop-place.auto.place-end in let b = c.loop-place-test.false in
    omega (arith, a, b, size)) in
    rw last at c.loop-place.invariant
