use Rattle.std.proofs.Common.{◌≡◌, append_assoc, arith, length, take}
use Rattle.std.proofs.Math.Seq.{take-length}
use Rattle.web_worker.specs.Flights.{flight_outcome}
use Rattle.cli_print.specs.OutcomeText.{exchange_text}
use Rattle.cli_print.proofs.MappedListsLemmas.{mapped_more}
use Rattle.cli_print.proofs.outcomes.put_flights.Goals as goal

pub loop-number-preserved : goal.loop-number-preserved
loop-number-preserved g c =
    rw (c.in_ok-put_flight.ensures, c.in_ok-put_numbered.ensures, c.loop-number.invariant, mapped_more (λ f. flight_outcome f) exchange_text c.args.flights.now c.loop-number.number c.index-flights-number.result c.loop-number-test.true c.index-flights-number.is)
    (simp append_assoc)

pub returns : goal.returns
returns g c =
    let last : c.loop-number.number ≡ length c.args.flights.now = (let a = c.loop-number.auto.number-end in let b = c.loop-number-test.false in omega (arith, a, b)) in
    let all : take c.loop-number.number c.args.flights.now ≡ c.args.flights.now = rw last (take-length c.args.flights.now) in
    rw all at c.loop-number.invariant
