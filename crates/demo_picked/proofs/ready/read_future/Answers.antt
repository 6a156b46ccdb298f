use Rattle.demo_arguments.specs.DemoArguments.{raw_view}
use Rattle.demo_arguments.specs.declared.choice.ReadChoice.TheVariants as read
use Rattle.demo_picked.specs.ArgumentMeanings.{MeansAccept}
use Rattle.demo_picked.specs.BodyArguments.{MeansRaw}
use Rattle.demo_picked.specs.ItemArguments.{MeansPathItem, MeansQueryItem}
use Rattle.demo_picked.specs.PickedArguments.{MeansRead}
use Rattle.demo_picked.specs.Picking.{By, parse_fault, same_fault}
use Rattle.demo_picked.specs.declared.picked.Picked.TheVariants as picked
use Rattle.demo_picked.proofs.PickedArgumentsLemmas.{extracts_chosen, extracts_now}
use Rattle.demo_picked.proofs.ready.read_future.Goals as goal

pub returns-in_ok-future-in-Path-clause-extracts : goal.returns-in_ok-future-in-Path-clause-extracts
returns-in_ok-future-in-Path-clause-extracts c =
    extracts_chosen (λ d m rest n x. MeansRead d c.args.req.now.request m rest n x) _ read.Path _ _ _ c.in-Path.is
    (extracts_now (λ v. picked.Path v) (By same_fault) (MeansPathItem c.args.req.now.request) _ _ _ _
    c.picked_now.ensures.gives c.in_ok-future-in-Path.ensures.extracts)

pub returns-in_ok-future-in-Query-clause-extracts : goal.returns-in_ok-future-in-Query-clause-extracts
returns-in_ok-future-in-Query-clause-extracts c =
    extracts_chosen (λ d m rest n x. MeansRead d c.args.req.now.request m rest n x) _ read.Query _ _ _ c.in-Query.is
    (extracts_now (λ v. picked.Query v) (By same_fault) (MeansQueryItem c.args.req.now.request) _ _ _ _
    c.picked_now-in-Query.ensures.gives c.in_ok-future-in-Query.ensures.extracts)

pub returns-in_ok-future-in-Header-clause-extracts : goal.returns-in_ok-future-in-Header-clause-extracts
returns-in_ok-future-in-Header-clause-extracts c =
    extracts_chosen (λ d m rest n x. MeansRead d c.args.req.now.request m rest n x) _ read.Header _ _ _ c.in-Header.is
    (extracts_now (λ v. picked.Header v) (By parse_fault) (MeansAccept c.args.req.now.request) _ _ _ _
    c.picked_now-in-Header.ensures.gives c.in_ok-future-in-Header.ensures.extracts)

pub returns-in_ok-future-in-Raw-clause-extracts : goal.returns-in_ok-future-in-Raw-clause-extracts
returns-in_ok-future-in-Raw-clause-extracts c =
    extracts_chosen (λ d m rest n x. MeansRead d c.args.req.now.request m rest n x) _ read.Raw _ _ _ c.in-Raw.is
    (extracts_now (λ v. picked.Raw (raw_view v)) (By same_fault) MeansRaw _ _ _ _
    c.picked_now-in-Raw.ensures.gives c.in_ok-future-in-Raw.ensures.extracts)
