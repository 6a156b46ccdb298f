use Rattle.web_extract.specs.ReadyFuture.{MeansUnit}
use Rattle.demo_arguments.specs.LateAndWait.{MeansWait}
use Rattle.demo_arguments.specs.declared.choice.HeadChoice.TheVariants as head
use Rattle.demo_picked.specs.ArgumentMeanings.{MeansWho}
use Rattle.demo_picked.specs.PickedArguments.{MeansHead}
use Rattle.demo_picked.specs.Picking.{By, never_fault}
use Rattle.demo_picked.specs.declared.picked.Picked.TheVariants as picked
use Rattle.demo_picked.proofs.PickedArgumentsLemmas.{extracts_chosen, extracts_now}
use Rattle.demo_picked.proofs.ready.head_future.Goals as goal

pub returns-in_ok-future-in-Who-clause-extracts : goal.returns-in_ok-future-in-Who-clause-extracts
returns-in_ok-future-in-Who-clause-extracts c =
    extracts_chosen (λ d m rest n x. MeansHead d c.args.req.now.request m rest n x) _ head.Who _ _ _ c.in-Who.is
    (extracts_now (λ v. picked.Who v) (By never_fault) (MeansWho c.args.req.now.request) _ _ _ _
    c.picked_now.ensures.gives c.in_ok-future-in-Who.ensures.extracts)

pub returns-in_ok-future-in-Request-clause-extracts : goal.returns-in_ok-future-in-Request-clause-extracts
returns-in_ok-future-in-Request-clause-extracts c =
    extracts_chosen (λ d m rest n x. MeansHead d c.args.req.now.request m rest n x) _ (head.Request c.in-Request.choice) _ _ _ c.in-Request.is
    c.in_ok-future-in-Request.ensures.extracts

pub returns-in_ok-future-in-Wait-clause-extracts : goal.returns-in_ok-future-in-Wait-clause-extracts
returns-in_ok-future-in-Wait-clause-extracts c =
    extracts_chosen (λ d m rest n x. MeansHead d c.args.req.now.request m rest n x) _ head.Wait _ _ _ c.in-Wait.is
    (extracts_now (λ v. picked.Wait v) (By never_fault) (MeansWait c.args.req.now.request.params) _ _ _ _
    c.picked_now-in-Wait.ensures.gives c.in_ok-future-in-Wait.ensures.extracts)

pub returns-in_ok-future-in-Other-clause-extracts : goal.returns-in_ok-future-in-Other-clause-extracts
returns-in_ok-future-in-Other-clause-extracts c =
    extracts_chosen (λ d m rest n x. MeansHead d c.args.req.now.request m rest n x) _ head.Other _ _ _ c.in-Other.is
    (extracts_now (λ _. picked.Other) (By never_fault) MeansUnit _ _ _ _
    c.picked_now-in-Other.ensures.gives c.in_ok-future-in-Other.ensures.extracts)
