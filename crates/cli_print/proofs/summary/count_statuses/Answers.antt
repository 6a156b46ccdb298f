use Rattle.std.proofs.Common.{◌≡◌, ◌∙◌, ◌<◌, ◌+◌, ◌-◌, ap, length, map, take, arith, sym}
use Rattle.std.proofs.Math.Seq.{take-length}
use Rattle.web_worker.specs.Flights.{flight_outcome}
use Rattle.cli_print.specs.SummaryText.{has_status, statuses}
use Rattle.cli_print.proofs.CountLemmas.{counts_all, counts_room, counts_same, counts_start, counts_step}
use Rattle.cli_print.proofs.SummaryLemmas.{no_status, status_tested}
use Rattle.cli_print.proofs.summary.count_statuses.Goals as goal
use Rattle.cli_print.proofs.summary.count_statuses.Goals.{in-Some, in-None}

pub loop-flight-init : goal.loop-flight-init
loop-flight-init g c =
    counts_start has_status 900 c.in_ok-counts.counts.items
    (c.in_ok-counts.ensures.items_if_clones_equal (λ y same. same))

pub count_at-requires-clause-room : goal.count_at-requires-clause-room
count_at-requires-clause-room g c =
    let valid = c.in-Some.ensures.valid in
    let is = c.from.ensures in
    let within : c.from.result - 100 < 900 = omega (arith, valid.0, valid.1, is) in
    counts_room has_status 900 (λ f. flight_outcome f) c.args.flights.now c.loop-flight.flight-index
    (c.from.result - 100) c.loop-flight.counts.items c.loop-flight.invariant within
    c.loop-flight-test.true c.requires.room

pub loop-flight-preserved : goal.loop-flight-preserved
loop-flight-preserved g c =
    elim c.match-reply_status.branch [
      | in-Some w ↦ (let valid = w.in-Some.ensures.valid in
          let is = w.from.ensures in
          let within : w.from.result - 100 < 900 = omega (arith, valid.0, valid.1, is) in
          let at : 100 + (w.from.result - 100) ≡ w.in-Some.status = omega (arith, valid.0, valid.1, is) in
          counts_step has_status 900 (λ f. flight_outcome f) c.args.flights.now
          c.loop-flight.flight-index c.flight-item.result c.loop-flight.counts.items
          c.match-reply_status.counts.items (w.from.result - 100) c.loop-flight-test.true
          c.flight-item.is c.loop-flight.invariant
          (status_tested (flight_outcome c.flight-item.result) w.in-Some.status
          (w.from.result - 100) w.in-Some.ensures.value at) within
          (ap (λ v. v.items) w.counts-is ∙ w.count_at.ensures))
      | in-None w ↦ counts_same has_status 900 (λ f. flight_outcome f) c.args.flights.now
          c.loop-flight.flight-index c.flight-item.result c.loop-flight.counts.items
          c.match-reply_status.counts.items c.loop-flight-test.true c.flight-item.is
          c.loop-flight.invariant
          (no_status (flight_outcome c.flight-item.result) w.in-None.ensures.value)
          (ap (λ v. v.items) w.counts-is)
    ]

pub returns : goal.returns
unfolding statuses
returns g c =
    let last : c.loop-flight.flight-index ≡ length c.args.flights.now =
    (let a = c.loop-flight.auto.flight-index-end in let b = c.loop-flight-test.false in
    omega (arith, a, b)) in
    let all : take c.loop-flight.flight-index c.args.flights.now ≡ c.args.flights.now =
    rw last (take-length c.args.flights.now) in
    counts_all has_status 900 (map (λ f. flight_outcome f) c.args.flights.now)
    c.loop-flight.counts.items (rw all at c.loop-flight.invariant)
