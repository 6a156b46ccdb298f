use Rattle.std.proofs.Common.{rules, [], ◌∷◌, ap, refl, ◌∙◌}
use Rattle.web_body.specs.HeadTests.{refusal_by}
use Rattle.web_body.specs.MessageBody.{default_limit}
use Rattle.web_reply.specs.Responders.{bytes_reply}
use Rattle.web_extract.specs.LayerConfigurations.{holds_nothing}
use Rattle.web_extract.specs.declared.config.refuse.NoHandler.{NoHandler}
use Rattle.web_extract.specs.declared.config.refuse.NoType.{NoType}
use Rattle.web_worker.specs.Exchanges.{request_of}
use Rattle.web_worker.proofs.ExchangeLawLemmas.{holds_only}
use Rattle.example_handlers.proofs.HelloLemmas.{hello_marks, hello_once, on_mapped, only_outcome}
use Rattle.example_handlers.proofs.hello.serve_hello.Goals as goal

pub returns : goal.returns
returns c =
    let x = c.in_ok-new_exchange.field-0 in
    let worker = c.in_ok-worker.worker in
    on_mapped c.serve_all.result c.map_err.result _ _ _
    (λ os functions. only_outcome _ x 1 _
    (hello_once {J = NoHandler} {F = NoHandler} {P = NoHandler} {Q = NoHandler} {T = NoType}
    (λ l. holds_nothing) (λ l. refl) worker _ x
    (ap (λ h. refusal_by h default_limit) c.in_ok-new_exchange.ensures.headers ∙ c.requires)
    (c.exchange_law.ensures.answers worker x hello_marks _ _ bytes_reply
    c.in_ok-new_exchange.ensures.body
    (c.seen_places_law.ensures.bytes (request_of worker x) hello_marks)
    (λ v n y answer.
    let is = holds_only answer.0 v n y (search rules) answer.2 in
    (is.0, λ r response. response ∙ ap bytes_reply is.1))))
    (0 ∷ 0 ∷ []) _ c.in_ok-exchanges.ensures.items _ functions)
    c.map_err.ensures.cases c.serve_all.ensures.functions
