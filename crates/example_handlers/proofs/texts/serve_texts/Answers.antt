use Rattle.std.proofs.Common.{ap, rules, ◌∙◌}
use Rattle.std.specs.Prelude.{string_bytes}
use Rattle.web_body.specs.Payload.{payload_feed}
use Rattle.web_reply.specs.Responders.{text_reply}
use Rattle.web_worker.specs.AnsweredExchanges.{marks_or_none, reply_or_error}
use Rattle.web_worker.specs.Exchanges.{request_of}
use Rattle.web_worker.proofs.ExchangeLawLemmas.{holds_only, marks_stated, on_ok}
use Rattle.example_handlers.specs.Texts.{text_argument, text_of}
use Rattle.example_handlers.proofs.texts.serve_texts.Goals as goal

pub returns : goal.returns
returns g c =
    let feed = g.A.Source.Source.feed in
    let worker = c.args.worker.now in
    let argument = text_argument feed g.A.Layer.Configs.configurations worker in
    on_ok c.serve_all.result _ _
    (λ os functions. c.plan_law.ensures worker (λ x. (argument x).delay)
    (λ x. reply_or_error text_of (argument x).result)
    (λ x states.
    let m = marks_or_none (payload_feed feed x.body).marks in
    c.list_exchange_law.ensures.answers worker x m _ (argument x) text_of
    (marks_stated (payload_feed feed x.body).marks states)
    (c.text_list_law.ensures (request_of worker x) m)
    (λ v n y answer.
    let is = holds_only answer.0 v.0 n y (search rules) answer.2 in
    (is.0, λ r response. response ∙ ap (λ s. text_reply (string_bytes s)) is.1)))
    _ _ _ functions)
    c.serve_all.ensures.functions
