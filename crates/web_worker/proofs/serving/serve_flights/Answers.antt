use Rattle.std.proofs.Common.{◌≡◌, ◌+◌, ◌∙◌, ◌++◌, ◌∷◌, [], ℕ, List, ap, arith, length, map, refl, sym, subst, take}
use Rattle.web_request.specs.Pool.{Pool}
use Rattle.web_worker.specs.Exchanges.{request_of}
use Rattle.web_worker.specs.Flights.{flight_outcome}
use Rattle.web_worker.specs.Outcomes.{OutcomeView}
use Rattle.web_worker.specs.PlanCalls.{AllowedCalls, AppendsCalls, LacksMemory}
use Rattle.web_worker.specs.PlanOutcomes.{AllowedOutcomes}
use Rattle.web_worker.specs.PoolRun.{return_held, serial_state}
use Rattle.web_worker.specs.PlanPools.{with_records}
use Rattle.web_worker.specs.Setting.{setting_of}
use Rattle.web_worker.proofs.CallsFunctionLemmas.{deterministic_calls}
use Rattle.web_worker.proofs.OutcomeFunctionsLemmas.{deterministic_outcomes}
use Rattle.web_worker.proofs.PlanCallsLemmas.{CallsAfter, allowed_calls, calls_next, calls_start}
use Rattle.web_worker.proofs.PlanEndLemmas.{ended_answered, ended_outcomes, map_all, map_next}
use Rattle.web_worker.proofs.PlanProgressLemmas.{FlightsAfter, allowed_outcomes, flights_next, flights_start}
use Rattle.web_worker.proofs.PoolCountLemmas.{polls_least, polls_most, polls_rest, room}
use Rattle.web_worker.proofs.PoolEndLemmas.{returned_made, returned_rest}
use Rattle.web_worker.proofs.PoolFunctionLemmas.{pool_is}
use Rattle.web_worker.proofs.PoolPlanLemmas.{RunSoFar, run_ends, run_more, run_start}
use Rattle.web_worker.proofs.ServiceLemmas.{polls_as}
use Rattle.web_worker.proofs.serving.serve_flights.Goals as goal

pub loop-entry-init : goal.loop-entry-init
loop-entry-init g c =
    let s = setting_of (g.S.Service.completed c.args.service.now) (g.S.Service.promise c.args.service.now) (g.S.Service.left c.args.service.now) g.A.Source.Source.feed c.args.worker.now in
    record {
      ready = c.requires.ready;
      same_promises = g.met.S.Service.same_itself c.args.service.now;
      calls = calls_start s c.args.flights.now (g.S.Service.calls c.args.service.now);
      flights = flights_start s c.args.flights.now;
      most = omega arith;
      least = omega arith;
      rest = refl;
      runs = run_start s c.args.flights.now c.args.worker.now;
    }

pub poll_one-requires-clause-room : goal.poll_one-requires-clause-room
poll_one-requires-clause-room g c =
    let few = room c.loop-entry.flights c.index.result in
    let most = c.loop-entry.invariant.most in
    let small = c.requires.room in
    omega (arith, few, most, small)

pub loop-entry-preserved : goal.loop-entry-preserved
loop-entry-preserved g c =
    let s = setting_of (g.S.Service.completed c.args.service.now) (g.S.Service.promise c.args.service.now) (g.S.Service.left c.args.service.now) g.A.Source.Source.feed c.args.worker.now in
    let plan = map (λ n. g.N.PlanEntry.number n) (take c.loop-entry.entry-index c.args.plan.now) in
    let next : map (λ n. g.N.PlanEntry.number n) (take (c.loop-entry.entry-index + 1) c.args.plan.now) ≡ plan ++ c.index.result ∷ [] =
    rw c.index.ensures (rw c.entry-item.is (map_next (λ n. g.N.PlanEntry.number n) c.args.plan.now c.loop-entry.entry-index c.entry-item.result c.loop-entry-test.true)) in
    let polled = polls_as g.A.Source.Source.feed (request_of c.args.worker.now)
    (g.S.Service.completed c.args.service.now) (g.S.Service.completed c.loop-entry.service)
    (g.S.Service.promise c.args.service.now) (g.S.Service.promise c.loop-entry.service)
    (g.S.Service.left c.args.service.now) (g.S.Service.left c.loop-entry.service)
    (g.met.S.Service.keeps c.args.service.now c.loop-entry.service c.loop-entry.invariant.same_promises)
    c.index.result c.loop-entry.flights c.poll_one.new.flights (with_records c.loop-entry.worker.serials c.loop-entry.worker.made c.args.worker.now) c.poll_one.new.worker
    (g.S.Service.calls c.loop-entry.service) (g.S.Service.calls c.poll_one.new.service) (rw c.loop-entry.invariant.rest at c.poll_one.ensures.polls) in
    record {
      ready = c.poll_one.ensures.ready;
      same_promises = g.met.S.Service.same_on c.args.service.now c.loop-entry.service
          c.poll_one.new.service c.loop-entry.invariant.same_promises
          c.poll_one.ensures.same_promises;
      calls = rw next (calls_next s plan c.index.result c.args.flights.now c.loop-entry.flights c.poll_one.new.flights (with_records c.loop-entry.worker.serials c.loop-entry.worker.made c.args.worker.now) c.poll_one.new.worker
          (g.S.Service.calls c.args.service.now) (g.S.Service.calls c.loop-entry.service) (g.S.Service.calls c.poll_one.new.service) c.loop-entry.invariant.calls polled);
      flights = rw next (flights_next s plan c.index.result c.args.flights.now c.loop-entry.flights c.poll_one.new.flights (with_records c.loop-entry.worker.serials c.loop-entry.worker.made c.args.worker.now) c.poll_one.new.worker
          (g.S.Service.calls c.loop-entry.service) (g.S.Service.calls c.poll_one.new.service) c.loop-entry.invariant.flights polled);
      most =
          let m = polls_most (setting_of (g.S.Service.completed c.loop-entry.service) (g.S.Service.promise c.loop-entry.service) (g.S.Service.left c.loop-entry.service) g.A.Source.Source.feed c.loop-entry.worker)
          c.index.result c.loop-entry.flights c.poll_one.new.flights c.loop-entry.worker c.poll_one.new.worker
          (g.S.Service.calls c.loop-entry.service) (g.S.Service.calls c.poll_one.new.service) c.poll_one.ensures.polls in
          let so_far = c.loop-entry.invariant.most in
          omega (arith, m, so_far);
      least =
          let m = polls_least (setting_of (g.S.Service.completed c.loop-entry.service) (g.S.Service.promise c.loop-entry.service) (g.S.Service.left c.loop-entry.service) g.A.Source.Source.feed c.loop-entry.worker)
          c.index.result c.loop-entry.flights c.poll_one.new.flights c.loop-entry.worker c.poll_one.new.worker
          (g.S.Service.calls c.loop-entry.service) (g.S.Service.calls c.poll_one.new.service) c.poll_one.ensures.polls in
          let so_far = c.loop-entry.invariant.least in
          omega (arith, m, so_far);
      rest =
          polls_rest (setting_of (g.S.Service.completed c.loop-entry.service) (g.S.Service.promise c.loop-entry.service) (g.S.Service.left c.loop-entry.service) g.A.Source.Source.feed c.loop-entry.worker)
          c.index.result c.loop-entry.flights c.poll_one.new.flights c.loop-entry.worker c.poll_one.new.worker
          (g.S.Service.calls c.loop-entry.service) (g.S.Service.calls c.poll_one.new.service) c.poll_one.ensures.polls
          ∙ ap (λ (z : Pool _). with_records c.poll_one.new.worker.serials c.poll_one.new.worker.made z) c.loop-entry.invariant.rest;
      runs = rw next (run_more s plan c.index.result c.args.flights.now c.loop-entry.flights c.poll_one.new.flights c.args.worker.now c.loop-entry.worker c.poll_one.new.worker
          (g.S.Service.calls c.loop-entry.service) (g.S.Service.calls c.poll_one.new.service) c.loop-entry.invariant.runs c.loop-entry.invariant.flights c.loop-entry.invariant.rest polled);
    }

pub returns-clause-answered : goal.returns-clause-answered
returns-clause-answered g c = ended_answered c.loop-entry.flights c.end_flights.new.flights c.end_flights.ensures.answered

pub returns-clause-outcomes : goal.returns-clause-outcomes
returns-clause-outcomes g c = λ xs e.
    let s = setting_of (g.S.Service.completed c.args.service.now) (g.S.Service.promise c.args.service.now) (g.S.Service.left c.args.service.now) g.A.Source.Source.feed c.args.worker.now in
    let plan = map (λ n. g.N.PlanEntry.number n) c.args.plan.now in
    let last : c.loop-entry.entry-index ≡ length c.args.plan.now = (let a = c.loop-entry.auto.entry-index-end in let b = c.loop-entry-test.false in omega (arith, a, b)) in
    let after : FlightsAfter s plan c.args.flights.now c.loop-entry.flights =
    subst (λ (plan : List ℕ). FlightsAfter s plan c.args.flights.now c.loop-entry.flights) (map_all (λ n. g.N.PlanEntry.number n) c.args.plan.now c.loop-entry.entry-index last) c.loop-entry.invariant.flights in
    subst (λ (os : List OutcomeView). AllowedOutcomes s plan xs os) (sym (ended_outcomes c.loop-entry.flights c.end_flights.new.flights c.end_flights.ensures.answered))
    (allowed_outcomes s plan xs c.args.flights.now c.loop-entry.flights e after)

pub returns-clause-functions : goal.returns-clause-functions
returns-clause-functions g c = λ xs e.
    let s = setting_of (g.S.Service.completed c.args.service.now) (g.S.Service.promise c.args.service.now) (g.S.Service.left c.args.service.now) g.A.Source.Source.feed c.args.worker.now in
    deterministic_outcomes s (map (λ n. g.N.PlanEntry.number n) c.args.plan.now) xs (map (λ f. flight_outcome f) c.end_flights.new.flights) (returns-clause-outcomes g c xs e)

pub returns-clause-calls : goal.returns-clause-calls
returns-clause-calls g c = λ xs e.
    let s = setting_of (g.S.Service.completed c.args.service.now) (g.S.Service.promise c.args.service.now) (g.S.Service.left c.args.service.now) g.A.Source.Source.feed c.args.worker.now in
    let plan = map (λ n. g.N.PlanEntry.number n) c.args.plan.now in
    let old = g.S.Service.calls c.args.service.now in
    let new = g.S.Service.calls c.loop-entry.service in
    let last : c.loop-entry.entry-index ≡ length c.args.plan.now = (let a = c.loop-entry.auto.entry-index-end in let b = c.loop-entry-test.false in omega (arith, a, b)) in
    let after : CallsAfter s plan c.args.flights.now c.loop-entry.flights old new =
    subst (λ (plan : List ℕ). CallsAfter s plan c.args.flights.now c.loop-entry.flights old new) (map_all (λ n. g.N.PlanEntry.number n) c.args.plan.now c.loop-entry.entry-index last) c.loop-entry.invariant.calls in
    subst (λ (os : List OutcomeView). AppendsCalls old new (λ vs. AllowedCalls s (LacksMemory os) xs plan vs)) (sym (ended_outcomes c.loop-entry.flights c.end_flights.new.flights c.end_flights.ensures.answered))
    (allowed_calls s plan xs c.args.flights.now c.loop-entry.flights old new e after)

pub returns-clause-called : goal.returns-clause-called
returns-clause-called g c = λ xs e.
    let s = setting_of (g.S.Service.completed c.args.service.now) (g.S.Service.promise c.args.service.now) (g.S.Service.left c.args.service.now) g.A.Source.Source.feed c.args.worker.now in
    deterministic_calls s (map (λ n. g.N.PlanEntry.number n) c.args.plan.now) xs (map (λ f. flight_outcome f) c.end_flights.new.flights) (g.S.Service.calls c.args.service.now) (g.S.Service.calls c.loop-entry.service)
    (returns-clause-calls g c xs e)

pub returns-clause-pools : goal.returns-clause-pools
returns-clause-pools g c = λ xs e.
    let s = setting_of (g.S.Service.completed c.args.service.now) (g.S.Service.promise c.args.service.now) (g.S.Service.left c.args.service.now) g.A.Source.Source.feed c.args.worker.now in
    let plan = map (λ n. g.N.PlanEntry.number n) c.args.plan.now in
    let last : c.loop-entry.entry-index ≡ length c.args.plan.now = (let a = c.loop-entry.auto.entry-index-end in let b = c.loop-entry-test.false in omega (arith, a, b)) in
    let runs : RunSoFar s plan c.args.flights.now c.loop-entry.flights c.args.worker.now c.loop-entry.worker =
    subst (λ (plan : List ℕ). RunSoFar s plan c.args.flights.now c.loop-entry.flights c.args.worker.now c.loop-entry.worker) (map_all (λ n. g.N.PlanEntry.number n) c.args.plan.now c.loop-entry.entry-index last) c.loop-entry.invariant.runs in
    run_ends s plan c.args.flights.now c.loop-entry.flights c.args.worker.now c.loop-entry.worker c.end_flights.new.pool (map (λ f. flight_outcome f) c.end_flights.new.flights) runs
    (c.end_flights.ensures.pool ∙ ap (λ (z : Pool _). return_held z (map (λ f. serial_state f) c.loop-entry.flights)) c.worker.view_is)
    (ended_outcomes c.loop-entry.flights c.end_flights.new.flights c.end_flights.ensures.answered) xs e

pub returns-clause-pool : goal.returns-clause-pool
returns-clause-pool g c = λ xs e.
    let s = setting_of (g.S.Service.completed c.args.service.now) (g.S.Service.promise c.args.service.now) (g.S.Service.left c.args.service.now) g.A.Source.Source.feed c.args.worker.now in
    pool_is s (map (λ n. g.N.PlanEntry.number n) c.args.plan.now) xs (map (λ f. flight_outcome f) c.end_flights.new.flights) c.args.worker.now c.end_flights.new.pool
    (returns-clause-outcomes g c xs e) (returns-clause-pools g c xs e)

pub returns-clause-made : goal.returns-clause-made
returns-clause-made g c =
    let came = c.end_flights.ensures.pool ∙ ap (λ (z : Pool _). return_held z (map (λ f. serial_state f) c.loop-entry.flights)) c.worker.view_is in
    let made = ap (λ (z : Pool _). z.made) came ∙ returned_made c.loop-entry.worker (map (λ f. serial_state f) c.loop-entry.flights) in
    let most = c.loop-entry.invariant.most in
    omega (arith, made, most)

pub returns-clause-least : goal.returns-clause-least
returns-clause-least g c =
    let came = c.end_flights.ensures.pool ∙ ap (λ (z : Pool _). return_held z (map (λ f. serial_state f) c.loop-entry.flights)) c.worker.view_is in
    let made = ap (λ (z : Pool _). z.made) came ∙ returned_made c.loop-entry.worker (map (λ f. serial_state f) c.loop-entry.flights) in
    let least = c.loop-entry.invariant.least in
    omega (arith, made, least)

pub returns-clause-kept : goal.returns-clause-kept
returns-clause-kept g c =
    let came = c.end_flights.ensures.pool ∙ ap (λ (z : Pool _). return_held z (map (λ f. serial_state f) c.loop-entry.flights)) c.worker.view_is in
    subst (λ (z : Pool _). z ≡ with_records z.serials z.made c.args.worker.now) (sym came)
    (returned_rest c.loop-entry.worker (map (λ f. serial_state f) c.loop-entry.flights)
    ∙ ap (λ (z : Pool _). with_records (return_held c.loop-entry.worker (map (λ f. serial_state f) c.loop-entry.flights)).serials (return_held c.loop-entry.worker (map (λ f. serial_state f) c.loop-entry.flights)).made z) c.loop-entry.invariant.rest)
