use Rattle.std.proofs.Common.{◌≡◌, ℕ}
use Rattle.web_body.specs.Payload.{payload_feed}
use Rattle.web_extract.specs.Never.{NeverGives}
use Rattle.web_worker.specs.AnsweredExchanges.{marks_or_none}
use Rattle.web_worker.specs.Exchanges.{request_of}
use Rattle.web_worker.proofs.ExchangeLawLemmas.{marks_stated, on_ok}
use Rattle.example_handlers.specs.Examples.{body_and_rest, body_delay, body_reply}
use Rattle.example_handlers.proofs.ListingLemmas.{each_argued, listed, some_same}
use Rattle.example_handlers.proofs.serving.serve_echo.Goals as goal

pub returns-clause-answered : goal.returns-clause-answered
returns-clause-answered g c =
    let feed = g.A.Source.Source.feed in
    let of_layer = g.A.Layer.Configs.configurations in
    let worker = c.args.worker.now in
    on_ok c.serve_all.result _ _
    (λ os functions. c.plan_law.ensures worker (λ x. body_delay feed of_layer worker x)
    (λ x. body_reply feed of_layer worker x)
    (λ x states.
    let marks = (payload_feed feed x.body).marks in
    c.exchange_law.ensures.worker worker x (marks_or_none marks) _ _ (marks_stated marks states)
    (listed (λ e f. f ≡ e) (λ e f h. h) NeverGives of_layer (λ e f. f ≡ e) (λ e f h. h) feed
    (λ (u : ℕ) n a. ⊥) (λ (w : ℕ) n y. ⊥) worker (request_of worker x) (marks_or_none marks)))
    _ _ _ functions)
    c.serve_all.ensures.functions

pub returns-clause-called : goal.returns-clause-called
returns-clause-called g c told =
    let feed = g.A.Source.Source.feed in
    let of_layer = g.A.Layer.Configs.configurations in
    let worker = c.args.worker.now in
    on_ok c.serve_all.result _ _
    (λ os called none. some_same (called (λ x. body_and_rest feed of_layer worker x)
    (each_argued (λ e f. f ≡ e) (λ e f h. h) NeverGives of_layer (λ e f. f ≡ e) (λ e f h. h) feed (λ (u : ℕ) n x. ⊥) (λ (w : ℕ) n y. ⊥) worker c.args.exchanges.items told) none))
    c.serve_all.ensures.called
