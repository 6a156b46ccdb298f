-- What `Price` is read from, and written as. Written by tools/new-type.
use Rattle.std.specs.Prelude.{◌≡◌, ◌++◌, ◌||◌, ℕ, List, [], length, false, Result, Ok, Err, codes}
use Rattle.std.specs.Prelude.{refl, nat_lt, if◌then◌else◌}
use Rattle.serde_json.specs.Data.{Data, object, put, no_members}
use Rattle.serde_json.specs.Written.{has_float}
use Rattle.web_texts.specs.Pairs.{Pair}
use Rattle.web_codec.specs.Answers.{and_then}
use Rattle.web_codec.specs.DataReaders.{in_object, required, member_or, text_of}
use Rattle.web_codec.specs.DataWriters.{data_of_text, data_of_unsigned, text_no_float}
use Rattle.web_codec.specs.DataWriters.{unsigned_no_float, put_no_float}
use Rattle.web_codec.specs.FieldReaders.{required_field, field_or, text_field}
use Rattle.web_codec.specs.FieldWriters.{named_pairs, texts_of_text, texts_of_unsigned}
use Rattle.web_codec.specs.WholeNumbers.{u64_of, u64_field}
use Rattle.web_codec.specs.declared.faults.ReadFault.{ReadFault}
use Rattle.test_types.specs.declared.price.Price.{Price}

abbrev pub bounded_price_cents : ℕ → Result ℕ ReadFault
bounded_price_cents x =
    if nat_lt x 1 || nat_lt 100000 x
    then Err (record { text = codes "cents: not in 1..=100000" })
    else Ok x

abbrev pub bounded_price_currency : List ℕ → Result (List ℕ) ReadFault
bounded_price_currency x =
    if nat_lt 3 (length x)
    then Err (record { text = codes "currency: more than 3 bytes" })
    else Ok x

abbrev pub price_of : Data → Result Price ReadFault
price_of d =
    in_object d (
    and_then (and_then (required u64_of (codes "cents") d) bounded_price_cents) (λ cents.
    and_then
    (and_then (member_or text_of (codes "currency") (codes "EUR") d) bounded_price_currency)
    (λ currency.
    Ok (record { cents = cents; currency = currency }))))

abbrev pub data_of_price : Price → Data
data_of_price x =
    object (put (codes "currency") (data_of_text x.currency)
    (put (codes "cents") (data_of_unsigned x.cents) no_members))

pub price_no_float : (x : Price) → has_float (data_of_price x) ≡ false
price_no_float x =
    let members-1 = put (codes "cents") (data_of_unsigned x.cents) no_members in
    put_no_float (codes "currency") (data_of_text x.currency) members-1
    (text_no_float x.currency)
    (put_no_float (codes "cents") (data_of_unsigned x.cents) no_members
    (unsigned_no_float x.cents) refl)

abbrev pub price_of_pairs : List Pair → Result Price ReadFault
price_of_pairs pairs =
    and_then
    (and_then (required_field u64_field (codes "cents") pairs) bounded_price_cents)
    (λ cents.
    and_then
    (and_then (field_or text_field (codes "currency") (codes "EUR") pairs) bounded_price_currency)
    (λ currency.
    Ok (record { cents = cents; currency = currency })))

abbrev pub pairs_of_price : Price → List Pair
pairs_of_price x =
    ([] ++ named_pairs (codes "cents") (texts_of_unsigned x.cents))
    ++ named_pairs (codes "currency") (texts_of_text x.currency)
