use Rattle.std.proofs.Common.{◌≡◌, ◌<◌, ◌+◌, ◌∙◌, [], ap, arith, drop, length, map, sym}
use Rattle.std.proofs.lemmas.Grind.{common_steps}
use Rattle.std.proofs.lemmas.List.{drop_all, drop-set-lt}
use Rattle.web_worker.proofs.NumberedPairsLemmas.{agree_behind}
use Rattle.web_worker.specs.Exchanges.{FlightView}
use Rattle.web_worker.specs.PoolRun.{return_held, serial_state}
use Rattle.web_worker.proofs.PlanEndLemmas.{all_ended, ended_next}
use Rattle.web_worker.proofs.PoolEndLemmas.{return_next}
use Rattle.web_worker.proofs.serving.end_flights.Goals as goal

pub loop-flight-preserved : goal.loop-flight-preserved
loop-flight-preserved g c =
    let i = c.loop-flight.flight-index in
    let here : i < length c.args.flights.now = c.loop-flight-test.true in
    let size = c.loop-flight.invariant.size in
    let within : i < length c.loop-flight.flights = omega (arith, here, size) in
    let next = agree_behind c.loop-flight.flights c.args.flights.now i c.flight-item.result within size c.loop-flight.invariant.rest in
    record {
      pool = return_next c.args.flights.now c.loop-flight.flights i c.flight-item.result c.loop-flight.pool c.end.new.pool here next.0 c.end.ensures.pool ∙ c.loop-flight.invariant.pool;
      ended = ended_next c.args.flights.now c.loop-flight.flights i c.flight-item.result c.end.new.self here within c.loop-flight.invariant.ended next.0 c.end.ensures.answered;
      rest = drop-set-lt (i + 1) c.loop-flight.flights i c.end.new.self (omega arith) ∙ next.1;
      size = grind (arith, common_steps);
    }

pub returns-clause-pool : goal.returns-clause-pool
returns-clause-pool g c =
    let size = c.loop-flight.invariant.size in
    let last : c.loop-flight.flight-index ≡ length c.args.flights.now = (let a = c.loop-flight.auto.flight-index-end in let b = c.loop-flight-test.false in omega (arith, a, b, size)) in
    let none : drop c.loop-flight.flight-index c.args.flights.now ≡ [] = drop_all c.loop-flight.flight-index c.args.flights.now (omega (arith, last)) in
    ap (λ fs. return_held c.loop-flight.pool (map (λ (f : FlightView _ _ _ _ _). serial_state f) fs)) (sym none) ∙ c.loop-flight.invariant.pool

pub returns-clause-answered : goal.returns-clause-answered
returns-clause-answered g c =
    let size = c.loop-flight.invariant.size in
    let last : c.loop-flight.flight-index ≡ length c.args.flights.now = (let a = c.loop-flight.auto.flight-index-end in let b = c.loop-flight-test.false in omega (arith, a, b, size)) in
    all_ended c.args.flights.now c.loop-flight.flights c.loop-flight.flight-index last size c.loop-flight.invariant.ended
