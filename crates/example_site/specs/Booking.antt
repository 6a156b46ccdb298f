-- What `Booking` is read from, and written as. Written by tools/new-type.
use Rattle.std.specs.Prelude.{◌≡◌, ◌++◌, ◌||◌, ℕ, List, [], false, Result, Ok, Err, codes, refl}
use Rattle.std.specs.Prelude.{nat_lt, if◌then◌else◌}
use Rattle.serde_json.specs.Data.{Data, object, put, no_members}
use Rattle.serde_json.specs.Written.{has_float}
use Rattle.web_texts.specs.Pairs.{Pair}
use Rattle.web_codec.specs.Answers.{and_then}
use Rattle.web_codec.specs.DataReaders.{in_object, required, text_of}
use Rattle.web_codec.specs.DataWriters.{data_of_text, data_of_unsigned, text_no_float}
use Rattle.web_codec.specs.DataWriters.{unsigned_no_float, put_no_float}
use Rattle.web_codec.specs.FieldReaders.{required_field, text_field}
use Rattle.web_codec.specs.FieldWriters.{named_pairs, texts_of_text, texts_of_unsigned}
use Rattle.web_codec.specs.WholeNumbers.{u64_of, u64_field}
use Rattle.web_codec.specs.declared.faults.ReadFault.{ReadFault}
use Rattle.example_site.specs.declared.booking.Booking.{Booking}

abbrev pub bounded_booking_seats : ℕ → Result ℕ ReadFault
bounded_booking_seats x =
    if nat_lt x 1 || nat_lt 8 x
    then Err (record { text = codes "seats: not in 1..=8" })
    else Ok x

abbrev pub booking_of : Data → Result Booking ReadFault
booking_of d =
    in_object d (
    and_then (required text_of (codes "name") d) (λ name.
    and_then (and_then (required u64_of (codes "seats") d) bounded_booking_seats) (λ seats.
    Ok (record { name = name; seats = seats }))))

abbrev pub data_of_booking : Booking → Data
data_of_booking x =
    object (put (codes "seats") (data_of_unsigned x.seats)
    (put (codes "name") (data_of_text x.name) no_members))

pub booking_no_float : (x : Booking) → has_float (data_of_booking x) ≡ false
booking_no_float x =
    let members-1 = put (codes "name") (data_of_text x.name) no_members in
    put_no_float (codes "seats") (data_of_unsigned x.seats) members-1
    (unsigned_no_float x.seats)
    (put_no_float (codes "name") (data_of_text x.name) no_members
    (text_no_float x.name) refl)

abbrev pub booking_of_pairs : List Pair → Result Booking ReadFault
booking_of_pairs pairs =
    and_then (required_field text_field (codes "name") pairs) (λ name.
    and_then
    (and_then (required_field u64_field (codes "seats") pairs) bounded_booking_seats)
    (λ seats.
    Ok (record { name = name; seats = seats })))

abbrev pub pairs_of_booking : Booking → List Pair
pairs_of_booking x =
    ([] ++ named_pairs (codes "name") (texts_of_text x.name))
    ++ named_pairs (codes "seats") (texts_of_unsigned x.seats)
