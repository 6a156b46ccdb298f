use Rattle.std.proofs.Common.{◌≡◌, ◌+◌, ◌∙◌, length, map, take, true, false, arith, sym}
use Rattle.std.proofs.Math.Seq.{take-length}
use Rattle.web_worker.specs.Flights.{flight_outcome}
use Rattle.cli_print.specs.SummaryText.{count_where, is_unfinished}
use Rattle.cli_print.proofs.CountLemmas.{count_few, step}
use Rattle.cli_print.proofs.summary.count_unfinished.Goals as goal
use Rattle.cli_print.proofs.summary.count_unfinished.Goals.{then-is_unfinished, else-is_unfinished}

pub overflow_add-count : goal.overflow_add-count
overflow_add-count g c =
    let few = count_few is_unfinished (λ f. flight_outcome f) c.args.flights.now
    c.loop-flight.flight-index in
    let now = c.loop-flight.invariant in
    let inside = c.loop-flight-test.true in
    let room = c.requires.room in
    omega (arith, few, now, inside, room)

pub loop-flight-preserved : goal.loop-flight-preserved
loop-flight-preserved g c =
    let flights = c.args.flights.now in
    let i = c.loop-flight.flight-index in
    let tested = sym c.is_unfinished.ensures in
    elim c.if-is_unfinished.branch [
      | then-is_unfinished w ↦ step is_unfinished (λ f. flight_outcome f) flights i
          c.loop-flight.count c.if-is_unfinished.count c.flight-item.result true
          c.loop-flight-test.true c.flight-item.is c.loop-flight.invariant
          (tested ∙ w.if-is_unfinished.true) w.count-is
      | else-is_unfinished w ↦ step is_unfinished (λ f. flight_outcome f) flights i
          c.loop-flight.count c.if-is_unfinished.count c.flight-item.result false
          c.loop-flight-test.true c.flight-item.is c.loop-flight.invariant
          (tested ∙ w.if-is_unfinished.false)
          (let same = w.count-is in omega (arith, same))
    ]

pub returns : goal.returns
returns g c =
    let last : c.loop-flight.flight-index ≡ length c.args.flights.now =
    (let a = c.loop-flight.auto.flight-index-end in let b = c.loop-flight-test.false in
    omega (arith, a, b)) in
    let all : take c.loop-flight.flight-index c.args.flights.now ≡ c.args.flights.now =
    rw last (take-length c.args.flights.now) in
    rw all at c.loop-flight.invariant
