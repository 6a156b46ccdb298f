use Rattle.std.proofs.Common.{◌≡◌, ◌∙◌, ℕ, List, ap, arith, drop, length, map, subst, sym}
use Rattle.std.proofs.lemmas.List.{length-map}
use Rattle.web_worker.specs.Exchanges.{FlightView, FlightView.Waiting}
use Rattle.web_worker.specs.Flights.{flight_outcome}
use Rattle.web_worker.specs.Outcomes.{OutcomeView, outcome_views}
use Rattle.web_worker.specs.PlanCalls.{AllowedCalls, AppendsCalls, LacksMemory}
use Rattle.web_worker.specs.PlanOutcomes.{AllowedOutcomes}
use Rattle.web_worker.specs.PlanPools.{AllowedPool}
use Rattle.web_worker.specs.RecordsMade.{waiting_count}
use Rattle.web_worker.specs.Setting.{setting_of}
use Rattle.web_worker.proofs.CallsFunctionLemmas.{deterministic_calls}
use Rattle.web_worker.proofs.OutcomeFunctionsLemmas.{deterministic_outcomes}
use Rattle.web_worker.proofs.PlanEndLemmas.{lent_back, map_same}
use Rattle.web_worker.proofs.PoolCountLemmas.{waiting_start}
use Rattle.web_worker.proofs.PoolFunctionLemmas.{pool_is}
use Rattle.web_worker.proofs.serving.serve_all.Goals as goal

pub serve_flights-requires-clause-room : goal.serve_flights-requires-clause-room
serve_flights-requires-clause-room g c =
    let all : waiting_count c.as_mut_slice.result.now ≡ length c.args.exchanges.items = waiting_start c.as_mut_slice.result.now c.args.exchanges.items (c.as_mut_slice.ensures.value ∙ c.into_flights.ensures) in
    let small = c.requires.room in
    omega (arith, all, small)

pub collect_outcomes-requires-clause-room : goal.collect_outcomes-requires-clause-room
collect_outcomes-requires-clause-room g c =
    let size : c.into_flights.new.flights.len ≡ length c.serve_flights.new.flights = sym (c.serve_flights.auto.flights ∙ c.as_mut_slice.ensures.len) in
    let back = lent_back c.into_flights.new.flights.len c.serve_flights.new.flights (drop (length c.serve_flights.new.flights) c.into_flights.new.flights.items) size in
    let made : length c.into_flights.new.flights.items ≡ length c.args.exchanges.items = ap length c.into_flights.ensures ∙ length-map c.args.exchanges.items (λ x. Waiting x) in
    let whole = c.into_flights.new.flights.ok.0 in
    let room = c.in-Ok.ensures.second_room in
    let count = c.len.ensures in
    rw back (omega (arith, size, made, whole, room, count))

pub returns-clause-outcomes : goal.returns-clause-outcomes
returns-clause-outcomes g c =
    let s = setting_of (g.S.Service.completed c.args.service.now) (g.S.Service.promise c.args.service.now) (g.S.Service.left c.args.service.now) g.A.Source.Source.feed c.args.worker.now in
    let waiting = c.as_mut_slice.ensures.value ∙ c.into_flights.ensures in
    let size : c.into_flights.new.flights.len ≡ length c.serve_flights.new.flights = sym (c.serve_flights.auto.flights ∙ c.as_mut_slice.ensures.len) in
    let same : outcome_views g.A.Source.Source.feed c.collect_outcomes.new.outcomes.items ≡ map (λ f. flight_outcome f) c.serve_flights.new.flights =
    c.collect_outcomes.ensures ∙ ap (λ fs. map (λ (f : FlightView _ _ _ _ _). flight_outcome f) fs)
    (lent_back c.into_flights.new.flights.len c.serve_flights.new.flights (drop (length c.serve_flights.new.flights) c.into_flights.new.flights.items) size) in
    let served = subst (λ (plan : List ℕ). AllowedOutcomes s plan c.args.exchanges.items (map (λ f. flight_outcome f) c.serve_flights.new.flights)) (map_same c.args.plan.now) (c.serve_flights.ensures.outcomes c.args.exchanges.items waiting) in
    subst (λ (os : List OutcomeView). AllowedOutcomes s c.args.plan.now c.args.exchanges.items os) (sym same) served

pub returns-clause-functions : goal.returns-clause-functions
returns-clause-functions g c =
    let s = setting_of (g.S.Service.completed c.args.service.now) (g.S.Service.promise c.args.service.now) (g.S.Service.left c.args.service.now) g.A.Source.Source.feed c.args.worker.now in
    deterministic_outcomes s c.args.plan.now c.args.exchanges.items (outcome_views g.A.Source.Source.feed c.collect_outcomes.new.outcomes.items) (returns-clause-outcomes g c)

pub returns-clause-calls : goal.returns-clause-calls
returns-clause-calls g c =
    let s = setting_of (g.S.Service.completed c.args.service.now) (g.S.Service.promise c.args.service.now) (g.S.Service.left c.args.service.now) g.A.Source.Source.feed c.args.worker.now in
    let waiting = c.as_mut_slice.ensures.value ∙ c.into_flights.ensures in
    let size : c.into_flights.new.flights.len ≡ length c.serve_flights.new.flights = sym (c.serve_flights.auto.flights ∙ c.as_mut_slice.ensures.len) in
    let same : outcome_views g.A.Source.Source.feed c.collect_outcomes.new.outcomes.items ≡ map (λ f. flight_outcome f) c.serve_flights.new.flights =
    c.collect_outcomes.ensures ∙ ap (λ fs. map (λ (f : FlightView _ _ _ _ _). flight_outcome f) fs)
    (lent_back c.into_flights.new.flights.len c.serve_flights.new.flights (drop (length c.serve_flights.new.flights) c.into_flights.new.flights.items) size) in
    let served = subst (λ (plan : List ℕ). AppendsCalls (g.S.Service.calls c.args.service.now) (g.S.Service.calls c.serve_flights.new.service) (λ vs. AllowedCalls s (LacksMemory (map (λ f. flight_outcome f) c.serve_flights.new.flights)) c.args.exchanges.items plan vs)) (map_same c.args.plan.now) (c.serve_flights.ensures.calls c.args.exchanges.items waiting) in
    subst (λ (os : List OutcomeView). AppendsCalls (g.S.Service.calls c.args.service.now) (g.S.Service.calls c.serve_flights.new.service) (λ vs. AllowedCalls s (LacksMemory os) c.args.exchanges.items c.args.plan.now vs)) (sym same) served

pub returns-clause-called : goal.returns-clause-called
returns-clause-called g c =
    let s = setting_of (g.S.Service.completed c.args.service.now) (g.S.Service.promise c.args.service.now) (g.S.Service.left c.args.service.now) g.A.Source.Source.feed c.args.worker.now in
    deterministic_calls s c.args.plan.now c.args.exchanges.items (outcome_views g.A.Source.Source.feed c.collect_outcomes.new.outcomes.items) (g.S.Service.calls c.args.service.now) (g.S.Service.calls c.serve_flights.new.service)
    (returns-clause-calls g c)

pub returns-clause-pools : goal.returns-clause-pools
returns-clause-pools g c =
    let s = setting_of (g.S.Service.completed c.args.service.now) (g.S.Service.promise c.args.service.now) (g.S.Service.left c.args.service.now) g.A.Source.Source.feed c.args.worker.now in
    let waiting = c.as_mut_slice.ensures.value ∙ c.into_flights.ensures in
    let size : c.into_flights.new.flights.len ≡ length c.serve_flights.new.flights = sym (c.serve_flights.auto.flights ∙ c.as_mut_slice.ensures.len) in
    let same : outcome_views g.A.Source.Source.feed c.collect_outcomes.new.outcomes.items ≡ map (λ f. flight_outcome f) c.serve_flights.new.flights =
    c.collect_outcomes.ensures ∙ ap (λ fs. map (λ (f : FlightView _ _ _ _ _). flight_outcome f) fs)
    (lent_back c.into_flights.new.flights.len c.serve_flights.new.flights (drop (length c.serve_flights.new.flights) c.into_flights.new.flights.items) size) in
    let served = subst (λ (plan : List ℕ). AllowedPool s plan c.args.exchanges.items (map (λ f. flight_outcome f) c.serve_flights.new.flights) c.args.worker.now c.serve_flights.new.worker) (map_same c.args.plan.now) (c.serve_flights.ensures.pools c.args.exchanges.items waiting) in
    subst (λ (os : List OutcomeView). AllowedPool s c.args.plan.now c.args.exchanges.items os c.args.worker.now c.serve_flights.new.worker) (sym same) served

pub returns-clause-pool : goal.returns-clause-pool
returns-clause-pool g c =
    let s = setting_of (g.S.Service.completed c.args.service.now) (g.S.Service.promise c.args.service.now) (g.S.Service.left c.args.service.now) g.A.Source.Source.feed c.args.worker.now in
    pool_is s c.args.plan.now c.args.exchanges.items (outcome_views g.A.Source.Source.feed c.collect_outcomes.new.outcomes.items) c.args.worker.now c.serve_flights.new.worker
    (returns-clause-outcomes g c) (returns-clause-pools g c)

pub returns-clause-made : goal.returns-clause-made
returns-clause-made g c =
    let waiting = c.as_mut_slice.ensures.value ∙ c.into_flights.ensures in
    let count = waiting_start c.as_mut_slice.result.now c.args.exchanges.items waiting in
    let made = c.serve_flights.ensures.made in
    omega (arith, count, made)

pub returns-in_default-clause-same_promises : goal.returns-in_default-clause-same_promises
returns-in_default-clause-same_promises g c = g.met.S.Service.same_itself c.args.service.now
