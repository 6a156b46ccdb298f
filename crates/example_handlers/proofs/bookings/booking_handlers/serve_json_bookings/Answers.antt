use Rattle.std.proofs.Common.{ap, refl, rules, ◌∙◌}
use Rattle.web_request.specs.Feed.{Feed}
use Rattle.web_body.specs.Payload.{payload_feed}
use Rattle.web_worker.specs.AnsweredExchanges.{marks_or_none, reply_or_error}
use Rattle.web_worker.specs.Exchanges.{request_of}
use Rattle.web_worker.proofs.ExchangeLawLemmas.{holds_only, marks_stated, on_ok}
use Rattle.example_handlers.specs.BookingLayers.{is_plain_text, json_refusal}
use Rattle.example_handlers.specs.BookingReplies.{json_argument, json_booking}
use Rattle.example_handlers.specs.Bookings.{booking_of_json}
use Rattle.example_handlers.proofs.BookingLemmas.{json_responds}
use Rattle.example_handlers.proofs.bookings.booking_handlers.serve_json_bookings.Goals as goal

pub returns : goal.returns
returns c =
    let worker = c.args.worker.now in
    let argument = json_argument (λ (f : Feed). f) worker in
    on_ok c.serve_all.result _ _
    (λ os functions. c.plan_law.ensures worker (λ x. (argument x).delay)
    (λ x. reply_or_error json_booking (argument x).result)
    (λ x states.
    let m = marks_or_none (payload_feed (λ (f : Feed). f) x.body).marks in
    c.list_exchange_law.ensures.exact worker x m _ (argument x) json_booking
    (marks_stated (payload_feed (λ (f : Feed). f) x.body).marks states)
    (c.json_law.ensures (λ h e head. json_refusal e) (λ h e head. (refl, λ x is. is))
    (λ p t. is_plain_text t) (λ p t. (refl, λ x is. is)) booking_of_json (λ d. (refl, λ x is. is))
    (request_of worker x) m)
    (λ v n y answer.
    let is = holds_only answer.0 v n y (search rules) answer.2 in
    (is.0, λ r response. json_responds y r response ∙ ap json_booking is.1)))
    _ _ _ functions)
    c.serve_all.ensures.functions
