-- What a booking is read from, and what it is written as.
use Rattle.std.specs.Prelude.{List, [], ◌∷◌, Result, Ok, codes, decimal, option_and_then, slice_get}
use Rattle.serde_json.specs.Data.{Data, number, string, object, unsigned, member, no_members}
use Rattle.serde_json.specs.Find.{get, as_str, as_number, as_u64}
use Rattle.web_texts.specs.Digits.{digits_up_to}
use Rattle.web_texts.specs.Pairs.{Pair}
use Rattle.web_codec.specs.Answers.{or_refuse}
use Rattle.web_codec.specs.FormPairs.{values_of}
use Rattle.web_codec.specs.declared.faults.ReadFault.{ReadFault}
use Rattle.example_handlers.specs.declared.bookings.booking.Booking.{Booking}

-- a text `name` and a whole number `seats`
abbrev pub booking_of_json : Data → Result Booking ReadFault
booking_of_json d =
    or_refuse (record { text = codes "missing name" }) (get (codes "name") d) (λ name.
    or_refuse (record { text = codes "name is no text" }) (as_str name) (λ text.
    or_refuse (record { text = codes "missing seats" }) (get (codes "seats") d) (λ seats.
    or_refuse (record { text = codes "seats is no whole number" })
    (option_and_then as_u64 (as_number seats)) (λ n.
    Ok (record { name = text; seats = n })))))

abbrev pub json_of_booking : Booking → Data
json_of_booking x =
    object (member (codes "name") (string x.name)
    (member (codes "seats") (number (unsigned x.seats)) no_members))

-- the first value of `name`, and the first value of `seats`, which is digits alone
abbrev pub booking_of_pairs : List Pair → Result Booking ReadFault
booking_of_pairs pairs =
    or_refuse (record { text = codes "missing name" })
    (slice_get (values_of (codes "name") pairs) 0) (λ name.
    or_refuse (record { text = codes "missing seats" })
    (slice_get (values_of (codes "seats") pairs) 0) (λ text.
    or_refuse (record { text = codes "seats is no number" })
    (digits_up_to 18446744073709551615 text) (λ n.
    Ok (record { name = name; seats = n }))))

abbrev pub pairs_of_booking : Booking → List Pair
pairs_of_booking x =
    record { name = codes "name"; value = x.name }
    ∷ record { name = codes "seats"; value = decimal x.seats } ∷ []
