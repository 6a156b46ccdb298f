-- What `Order` is read from, and written as. Written by tools/new-type.
use Rattle.std.specs.Prelude.{◌≡◌, ◌++◌, List, [], false, Result, Ok, codes, refl}
use Rattle.serde_json.specs.Data.{Data, object, put, no_members}
use Rattle.serde_json.specs.Written.{has_float}
use Rattle.web_texts.specs.Pairs.{Pair}
use Rattle.web_codec.specs.Answers.{and_then}
use Rattle.web_codec.specs.DataReaders.{in_object, member_or}
use Rattle.web_codec.specs.DataWriters.{data_of_unsigned, unsigned_no_float, put_no_float}
use Rattle.web_codec.specs.FieldReaders.{field_or}
use Rattle.web_codec.specs.FieldWriters.{named_pairs, texts_of_unsigned}
use Rattle.web_codec.specs.WholeNumbers.{u64_of, u64_field}
use Rattle.web_codec.specs.declared.faults.ReadFault.{ReadFault}
use Rattle.example_shop.specs.declared.order.Order.{Order}

abbrev pub order_of : Data → Result Order ReadFault
order_of d =
    in_object d (
    and_then (member_or u64_of (codes "count") 1 d) (λ count.
    Ok (record { count = count })))

abbrev pub data_of_order : Order → Data
data_of_order x =
    object (put (codes "count") (data_of_unsigned x.count) no_members)

pub order_no_float : (x : Order) → has_float (data_of_order x) ≡ false
order_no_float x =
    put_no_float (codes "count") (data_of_unsigned x.count) no_members
    (unsigned_no_float x.count) refl

abbrev pub order_of_pairs : List Pair → Result Order ReadFault
order_of_pairs pairs =
    and_then (field_or u64_field (codes "count") 1 pairs) (λ count.
    Ok (record { count = count }))

abbrev pub pairs_of_order : Order → List Pair
pairs_of_order x =
    [] ++ named_pairs (codes "count") (texts_of_unsigned x.count)
