use Rattle.std.proofs.Common.{ap, refl, rules, ◌∙◌}
use Rattle.std.specs.Prelude.{false}
use Rattle.web_request.specs.Feed.{Feed}
use Rattle.web_body.specs.Payload.{payload_feed}
use Rattle.web_worker.specs.AnsweredExchanges.{marks_or_none}
use Rattle.web_worker.specs.Exchanges.{request_of}
use Rattle.web_worker.proofs.ExchangeLawLemmas.{holds_only, marks_stated, on_ok}
use Rattle.example_shop.specs.Item.{item_of}
use Rattle.example_shop.specs.ItemReplies.{item_argument, item_error, item_json, item_reply}
use Rattle.example_shop.proofs.ItemLemmas.{json_responds}
use Rattle.example_shop.proofs.item_handler.serve_items.Goals as goal

pub returns : goal.returns
returns c =
    let worker = c.args.worker.now in
    let argument = item_argument (λ (f : Feed). f) worker in
    on_ok c.serve_all.result _ _
    (λ os functions. c.plan_law.ensures worker (λ x. (argument x).delay)
    (λ x. item_reply (argument x).result)
    (λ x states.
    let m = marks_or_none (payload_feed (λ (f : Feed). f) x.body).marks in
    c.list_exchange_law.ensures.exact worker x m _ (argument x) item_json
    (marks_stated (payload_feed (λ (f : Feed). f) x.body).marks states)
    (c.json_law.ensures (λ errors e h. item_error errors e) (λ errors e h. (refl, λ x is. is))
    (λ p t. false) (λ p t. (refl, λ x is. is)) item_of (λ d. (refl, λ x is. is))
    (request_of worker x) m)
    (λ v n y answer.
    let is = holds_only answer.0 v n y (search rules) answer.2 in
    (is.0, λ r response. json_responds y r response ∙ ap item_json is.1)))
    _ _ _ functions)
    c.serve_all.ensures.functions
