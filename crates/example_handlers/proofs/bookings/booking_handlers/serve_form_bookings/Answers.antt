use Rattle.std.proofs.Common.{ap, refl, rules, ◌∙◌}
use Rattle.web_request.specs.Feed.{Feed}
use Rattle.web_body.specs.Payload.{payload_feed}
use Rattle.web_worker.specs.AnsweredExchanges.{marks_or_none, reply_or_error}
use Rattle.web_worker.specs.Exchanges.{request_of}
use Rattle.web_worker.proofs.ExchangeLawLemmas.{holds_only, marks_stated, on_ok}
use Rattle.example_handlers.specs.BookingLayers.{form_refusal}
use Rattle.example_handlers.specs.BookingReplies.{form_argument, form_booking}
use Rattle.example_handlers.specs.Bookings.{booking_of_pairs}
use Rattle.example_handlers.proofs.BookingLemmas.{form_responds}
use Rattle.example_handlers.proofs.bookings.booking_handlers.serve_form_bookings.Goals as goal

pub returns : goal.returns
returns c =
    let worker = c.args.worker.now in
    let argument = form_argument (λ (f : Feed). f) worker in
    on_ok c.serve_all.result _ _
    (λ os functions. c.plan_law.ensures worker (λ x. (argument x).delay)
    (λ x. reply_or_error form_booking (argument x).result)
    (λ x states.
    let m = marks_or_none (payload_feed (λ (f : Feed). f) x.body).marks in
    c.list_exchange_law.ensures.exact worker x m _ (argument x) form_booking
    (marks_stated (payload_feed (λ (f : Feed). f) x.body).marks states)
    (c.form_law.ensures (λ h e head. form_refusal e) (λ h e head. (refl, λ x is. is))
    booking_of_pairs (λ d. (refl, λ x is. is))
    (request_of worker x) m)
    (λ v n y answer.
    let is = holds_only answer.0 v n y (search rules) answer.2 in
    (is.0, λ r response. form_responds y r response ∙ ap form_booking is.1)))
    _ _ _ functions)
    c.serve_all.ensures.functions
