-- What bookings are answered with.
use Rattle.std.proofs.Common.{◌≡◌, ap, ◌∙◌}
use Rattle.std.specs.Prelude.{Ok}
use Rattle.web_codec.specs.PrintedValues.{printed_form, printed_json}
use Rattle.web_reply.specs.ResponseBodies.{Plain}
use Rattle.web_reply.specs.Replies.{Reply}
use Rattle.web_extract_body.specs.ValueReplies.{FormResponds, JsonResponds, form_reply, json_reply}
use Rattle.web_extract_body.specs.declared.form_value.Form.{Form}
use Rattle.web_extract_body.specs.declared.json_value.Json.{Json}
use Rattle.example_handlers.specs.BookingReplies.{form_booking, json_booking}
use Rattle.example_handlers.specs.Bookings.{json_of_booking, pairs_of_booking}
use Rattle.example_handlers.specs.declared.bookings.booking.Booking.{Booking}

pub json_responds : (v : Json Booking) (r : Reply Plain)
    → JsonResponds (λ y. y ≡ Ok (json_of_booking v.0)) r → r ≡ json_booking v
json_responds v r (x, (y, writes, prints), response) =
    response ∙ ap json_reply (prints ∙ ap printed_json writes)

pub form_responds : (v : Form Booking) (r : Reply Plain)
    → FormResponds (λ y. y ≡ Ok (pairs_of_booking v.0)) r → r ≡ form_booking v
form_responds v r (x, (y, writes, prints), response) =
    response ∙ ap form_reply (prints ∙ ap printed_form writes)
