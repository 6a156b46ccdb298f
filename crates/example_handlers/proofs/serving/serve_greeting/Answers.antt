use Rattle.std.proofs.Common.{codes}
use Rattle.web_body.specs.Payload.{payload_feed}
use Rattle.web_extract.specs.Never.{NeverGives}
use Rattle.web_reply.specs.Responders.{text_reply}
use Rattle.web_worker.specs.AnsweredExchanges.{marks_or_none}
use Rattle.web_worker.specs.Exchanges.{request_of}
use Rattle.web_worker.proofs.ExchangeLawLemmas.{marks_stated, on_ok}
use Rattle.example_handlers.proofs.GreeterLemmas.{greets}
use Rattle.example_handlers.proofs.serving.serve_greeting.Goals as goal

pub returns : goal.returns
returns g c =
    let worker = c.args.worker.now in
    on_ok c.serve_all.result _ _
    (λ os functions. c.plan_law.ensures worker (λ x. 1) (λ x. text_reply (codes "hello"))
    (λ x states.
    let marks = (payload_feed g.A.Source.Source.feed x.body).marks in
    let m = marks_or_none marks in
    let q = request_of worker x in
    c.exchange_law.ensures.worker worker x m 1 (text_reply (codes "hello"))
    (marks_stated marks states)
    (c.exchange_law.ensures.came q m 0 1 (text_reply (codes "hello")) (greets NeverGives q m)))
    _ _ _ functions)
    c.serve_all.ensures.functions
