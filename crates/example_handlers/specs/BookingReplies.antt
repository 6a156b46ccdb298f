-- What a request for a booking is answered with.
use Rattle.std.specs.Prelude.{codes}
use Rattle.serde_json.specs.Written.{compact_text}
use Rattle.web_request.specs.Feed.{Feed}
use Rattle.web_request.specs.Pool.{Pool}
use Rattle.web_codec.specs.FormPairs.{pairs_text}
use Rattle.web_body.specs.Payload.{payload_feed}
use Rattle.web_reply.specs.ResponseBodies.{Plain, Plain.Bytes}
use Rattle.web_reply.specs.Replies.{Reply, typed_reply}
use Rattle.web_extract.specs.LayerConfigurations.{form_settings, json_settings}
use Rattle.web_extract.specs.ListResults.{DelayedResult}
use Rattle.web_extract_body.specs.FormArgument.{form_result}
use Rattle.web_extract_body.specs.JsonArgument.{json_result}
use Rattle.web_extract_body.specs.declared.form_value.Form.{Form}
use Rattle.web_extract_body.specs.declared.json_value.Json.{Json}
use Rattle.web_worker.specs.AnsweredExchanges.{marks_or_none}
use Rattle.web_worker.specs.Exchanges.{ExchangeView, request_of}
use Rattle.example_handlers.specs.BookingLayers.{configurations_of, form_refusal}
use Rattle.example_handlers.specs.BookingLayers.{is_plain_text, json_refusal}
use Rattle.example_handlers.specs.Bookings.{booking_of_json, booking_of_pairs}
use Rattle.example_handlers.specs.Bookings.{json_of_booking, pairs_of_booking}
use Rattle.example_handlers.specs.declared.bookings.booking.Booking.{Booking}
use Rattle.example_handlers.specs.declared.bookings.booking_layer.BookingLayer.{BookingLayer}

module _ {S D C : Type 0} (feed : S → Feed) (pool : Pool BookingLayer) where
  -- the booking of a JSON body as an argument, under the layers of the request
  abbrev pub json_argument : ExchangeView S BookingLayer D C → DelayedResult (Json Booking)
  json_argument x =
      let q = request_of pool x in
      json_result (json_settings configurations_of q.layers) (λ h e head. json_refusal e)
      (λ p m. is_plain_text m) booking_of_json q.head
      (marks_or_none (payload_feed feed x.body).marks)

  -- the same of a form
  abbrev pub form_argument : ExchangeView S BookingLayer D C → DelayedResult (Form Booking)
  form_argument x =
      let q = request_of pool x in
      form_result (form_settings configurations_of q.layers) (λ h e head. form_refusal e)
      booking_of_pairs q.head (marks_or_none (payload_feed feed x.body).marks)

-- the booking as JSON, and as a form
abbrev pub json_booking : Json Booking → Reply Plain
json_booking v =
    typed_reply 200 (codes "application/json") (Bytes (compact_text (json_of_booking v.0)))

abbrev pub form_booking : Form Booking → Reply Plain
form_booking v =
    typed_reply 200 (codes "application/x-www-form-urlencoded")
    (Bytes (pairs_text (pairs_of_booking v.0)))
