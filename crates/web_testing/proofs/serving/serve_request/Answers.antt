use Rattle.std.proofs.Common.{map, subst}
use Rattle.web_request.specs.Pool.{Pool}
use Rattle.web_worker.specs.OutcomeFunctions.{DeterministicOutcomes}
use Rattle.web_worker.specs.Outcomes.{outcome_view}
use Rattle.web_worker.specs.PlanOutcomes.{AllowedOutcomes}
use Rattle.web_worker.specs.Setting.{setting_of}
use Rattle.web_testing.specs.TestWorkers.{new_test_pool, plan_of_one}
use Rattle.web_testing.proofs.TestWorkersLemmas.{one_allowed, one_determined, one_outcome}
use Rattle.web_testing.proofs.serving.serve_request.Goals as goal

pub only_outcome-requires : goal.only_outcome-requires
only_outcome-requires g c =
    one_outcome
    (setting_of (g.H.Service.completed c.args.handler.now) (g.H.Service.promise c.args.handler.now) (g.H.Service.left c.args.handler.now) g.A.Source.Source.feed c.in_ok-worker.worker)
    plan_of_one (λ o. outcome_view g.A.Source.Source.feed o) c.args.exchange
    c.in_ok-exchanges.exchanges.items c.in_ok-exchanges.ensures c.in-Ok.outcomes.items c.in-Ok.ensures.outcomes

pub returns-in-Ok-clause-outcome : goal.returns-in-Ok-clause-outcome
returns-in-Ok-clause-outcome g c =
    one_allowed
    (setting_of (g.H.Service.completed c.args.handler.now) (g.H.Service.promise c.args.handler.now) (g.H.Service.left c.args.handler.now) g.A.Source.Source.feed (new_test_pool c.args.root))
    plan_of_one (λ o. outcome_view g.A.Source.Source.feed o) c.args.exchange
    c.in_ok-exchanges.exchanges.items c.in_ok-exchanges.ensures c.in-Ok.outcomes.items c.only_outcome.result c.only_outcome.ensures
    (subst (λ (p : Pool _). AllowedOutcomes
    (setting_of (g.H.Service.completed c.args.handler.now) (g.H.Service.promise c.args.handler.now) (g.H.Service.left c.args.handler.now) g.A.Source.Source.feed p)
    plan_of_one c.in_ok-exchanges.exchanges.items (map (λ o. outcome_view g.A.Source.Source.feed o) c.in-Ok.outcomes.items))
    c.in_ok-worker.ensures c.in-Ok.ensures.outcomes)

pub returns-in-Ok-clause-function : goal.returns-in-Ok-clause-function
returns-in-Ok-clause-function g c =
    one_determined
    (setting_of (g.H.Service.completed c.args.handler.now) (g.H.Service.promise c.args.handler.now) (g.H.Service.left c.args.handler.now) g.A.Source.Source.feed (new_test_pool c.args.root))
    plan_of_one (λ o. outcome_view g.A.Source.Source.feed o) c.args.exchange
    c.in_ok-exchanges.exchanges.items c.in_ok-exchanges.ensures c.in-Ok.outcomes.items c.only_outcome.result c.only_outcome.ensures
    (subst (λ (p : Pool _). DeterministicOutcomes
    (setting_of (g.H.Service.completed c.args.handler.now) (g.H.Service.promise c.args.handler.now) (g.H.Service.left c.args.handler.now) g.A.Source.Source.feed p)
    plan_of_one c.in_ok-exchanges.exchanges.items (map (λ o. outcome_view g.A.Source.Source.feed o) c.in-Ok.outcomes.items))
    c.in_ok-worker.ensures c.in-Ok.ensures.functions)
