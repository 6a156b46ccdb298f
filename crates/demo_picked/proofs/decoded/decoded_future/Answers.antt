use Rattle.demo_arguments.specs.declared.choice.DecodedChoice.TheVariants as decoded
use Rattle.demo_picked.specs.PickedArguments.{MeansDecoded}
use Rattle.demo_picked.proofs.PickedArgumentsLemmas.{extracts_chosen}
use Rattle.demo_picked.proofs.decoded.decoded_future.Goals as goal

pub returns-in_ok-future-in-Json-clause-extracts : goal.returns-in_ok-future-in-Json-clause-extracts
returns-in_ok-future-in-Json-clause-extracts c =
    extracts_chosen (λ d m rest n x. MeansDecoded d c.args.req.now.request m rest n x)
    _ decoded.Json _ _ _ c.in-Json.is c.in_ok-future-in-Json.ensures.extracts

pub returns-in_ok-future-in-CappedJson-clause-extracts : goal.returns-in_ok-future-in-CappedJson-clause-extracts
returns-in_ok-future-in-CappedJson-clause-extracts c =
    extracts_chosen (λ d m rest n x. MeansDecoded d c.args.req.now.request m rest n x)
    _ decoded.CappedJson _ _ _ c.in-CappedJson.is c.in_ok-future-in-CappedJson.ensures.extracts

pub returns-in_ok-future-in-Form-clause-extracts : goal.returns-in_ok-future-in-Form-clause-extracts
returns-in_ok-future-in-Form-clause-extracts c =
    extracts_chosen (λ d m rest n x. MeansDecoded d c.args.req.now.request m rest n x)
    _ decoded.Form _ _ _ c.in-Form.is c.in_ok-future-in-Form.ensures.extracts

pub returns-in_ok-future-in-Parts-clause-extracts : goal.returns-in_ok-future-in-Parts-clause-extracts
returns-in_ok-future-in-Parts-clause-extracts c =
    extracts_chosen (λ d m rest n x. MeansDecoded d c.args.req.now.request m rest n x)
    _ decoded.Parts _ _ _ c.in-Parts.is c.in_ok-future-in-Parts.ensures.extracts

pub returns-in_ok-future-in-Either-clause-extracts : goal.returns-in_ok-future-in-Either-clause-extracts
returns-in_ok-future-in-Either-clause-extracts c =
    extracts_chosen (λ d m rest n x. MeansDecoded d c.args.req.now.request m rest n x)
    _ decoded.Either _ _ _ c.in-Either.is c.in_ok-future-in-Either.ensures.extracts

pub returns-in_ok-future-in-Option-clause-extracts : goal.returns-in_ok-future-in-Option-clause-extracts
returns-in_ok-future-in-Option-clause-extracts c =
    extracts_chosen (λ d m rest n x. MeansDecoded d c.args.req.now.request m rest n x)
    _ decoded.Option _ _ _ c.in-Option.is c.in_ok-future-in-Option.ensures.extracts

pub returns-in_ok-future-in-Result-clause-extracts : goal.returns-in_ok-future-in-Result-clause-extracts
returns-in_ok-future-in-Result-clause-extracts c =
    extracts_chosen (λ d m rest n x. MeansDecoded d c.args.req.now.request m rest n x)
    _ decoded.Result _ _ _ c.in-Result.is c.in_ok-future-in-Result.ensures.extracts
