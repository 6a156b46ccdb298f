use Rattle.std.proofs.Common.{ap, sym}
use Rattle.web_body.specs.Payload.{payload_feed}
use Rattle.web_worker.specs.AnsweredExchanges.{marks_or_none}
use Rattle.web_worker.specs.Exchanges.{request_of}
use Rattle.web_worker.proofs.ExchangeLawLemmas.{marks_stated, on_ok}
use Rattle.example_handlers.specs.Relays.{relayed_reply}
use Rattle.example_handlers.proofs.RelayLemmas.{leads}
use Rattle.example_handlers.proofs.relay.serve_relay.Goals as goal

pub returns : goal.returns
returns g c =
    let feed = g.A.Source.Source.feed in
    let worker = c.args.worker.now in
    on_ok c.serve_all.result _ _
    (λ os functions. c.plan_law.ensures worker (λ x. 0)
    (λ x. relayed_reply x.parts.head.headers (payload_feed feed x.body).marks)
    (λ x states.
    let marks = (payload_feed feed x.body).marks in
    let m = marks_or_none marks in
    let q = request_of worker x in
    let is = marks_stated marks states in
    let r = relayed_reply x.parts.head.headers marks in
    c.exchange_law.ensures.worker worker x m 0 r is
    (c.exchange_law.ensures.came q m 0 0 r
    (leads feed q m x.body is r (ap (λ o. relayed_reply x.parts.head.headers o) (sym is)))))
    _ _ _ functions)
    c.serve_all.ensures.functions
