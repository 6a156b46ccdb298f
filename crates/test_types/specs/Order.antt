-- What `Order` is read from, and written as. Written by tools/new-type.
use Rattle.std.specs.Prelude.{◌≡◌, ◌∷◌, ℕ, List, [], length, false, None, Result, Ok, Err, codes}
use Rattle.std.specs.Prelude.{refl, nat_lt, if◌then◌else◌}
use Rattle.serde_json.specs.Data.{Data, object, put, no_members}
use Rattle.serde_json.specs.Written.{has_float}
use Rattle.web_codec.specs.Answers.{and_then}
use Rattle.web_codec.specs.DataReaders.{in_object, deny_unknown, required, member_or, list_of}
use Rattle.web_codec.specs.DataReaders.{option_of, text_of}
use Rattle.web_codec.specs.DataWriters.{data_of_list, data_of_option, data_of_text, list_no_float}
use Rattle.web_codec.specs.DataWriters.{option_no_float, text_no_float, put_no_float}
use Rattle.web_codec.specs.declared.faults.ReadFault.{ReadFault}
use Rattle.test_types.specs.declared.order.Order.{Order}
use Rattle.test_types.specs.Payment.{payment_of, data_of_payment, payment_no_float}
use Rattle.test_types.specs.Price.{price_of, data_of_price, price_no_float}

abbrev pub bounded_order_name : List ℕ → Result (List ℕ) ReadFault
bounded_order_name x =
    if nat_lt 40 (length x)
    then Err (record { text = codes "name: more than 40 bytes" })
    else Ok x

abbrev pub bounded_order_tags : List (List ℕ) → Result (List (List ℕ)) ReadFault
bounded_order_tags x =
    if nat_lt 8 (length x)
    then Err (record { text = codes "tags: more than 8 items" })
    else Ok x

abbrev pub order_of : Data → Result Order ReadFault
order_of d =
    in_object d (
    and_then
    (deny_unknown (codes "name"
    ∷ codes "price"
    ∷ codes "note"
    ∷ codes "tags"
    ∷ codes "type"
    ∷ []) d)
    (λ known.
    and_then (and_then (required text_of (codes "name") d) bounded_order_name) (λ name.
    and_then (required price_of (codes "price") d) (λ price.
    and_then (member_or (option_of text_of) (codes "note") None d) (λ note.
    and_then
    (and_then (member_or (list_of text_of) (codes "tags") [] d) bounded_order_tags)
    (λ tags.
    and_then (required payment_of (codes "type") d) (λ kind.
    Ok (record { name = name; price = price; note = note; tags = tags; kind = kind }))))))))

abbrev pub data_of_order : Order → Data
data_of_order x =
    object (put (codes "type") (data_of_payment x.kind)
    (put (codes "tags") (data_of_list data_of_text x.tags)
    (put (codes "note") (data_of_option data_of_text x.note)
    (put (codes "price") (data_of_price x.price)
    (put (codes "name") (data_of_text x.name) no_members)))))

pub order_no_float : (x : Order) → has_float (data_of_order x) ≡ false
order_no_float x =
    let members-1 = put (codes "name") (data_of_text x.name) no_members in
    let members-2 = put (codes "price") (data_of_price x.price) members-1 in
    let members-3 = put (codes "note") (data_of_option data_of_text x.note) members-2 in
    let members-4 = put (codes "tags") (data_of_list data_of_text x.tags) members-3 in
    put_no_float (codes "type") (data_of_payment x.kind) members-4
    (payment_no_float x.kind)
    (put_no_float (codes "tags") (data_of_list data_of_text x.tags) members-3
    (list_no_float data_of_text text_no_float x.tags)
    (put_no_float (codes "note") (data_of_option data_of_text x.note) members-2
    (option_no_float data_of_text text_no_float x.note)
    (put_no_float (codes "price") (data_of_price x.price) members-1
    (price_no_float x.price)
    (put_no_float (codes "name") (data_of_text x.name) no_members
    (text_no_float x.name) refl))))
