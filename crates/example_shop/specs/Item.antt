-- What `Item` is read from, and written as. Written by tools/new-type.
use Rattle.std.specs.Prelude.{◌≡◌, ℕ, List, [], length, false, None, Result, Ok, Err, codes, refl}
use Rattle.std.specs.Prelude.{nat_lt, if◌then◌else◌}
use Rattle.serde_json.specs.Data.{Data, object, put, no_members}
use Rattle.serde_json.specs.Written.{has_float}
use Rattle.web_codec.specs.Answers.{and_then}
use Rattle.web_codec.specs.DataReaders.{in_object, required, member_or, list_of, option_of, text_of}
use Rattle.web_codec.specs.DataWriters.{data_of_list, data_of_option, data_of_text, list_no_float}
use Rattle.web_codec.specs.DataWriters.{option_no_float, text_no_float, put_no_float}
use Rattle.web_codec.specs.declared.faults.ReadFault.{ReadFault}
use Rattle.example_shop.specs.declared.item.Item.{Item}
use Rattle.example_shop.specs.Price.{price_of, data_of_price, price_no_float}

abbrev pub bounded_item_name : List ℕ → Result (List ℕ) ReadFault
bounded_item_name x =
    if nat_lt 40 (length x)
    then Err (record { text = codes "name: more than 40 bytes" })
    else Ok x

abbrev pub item_of : Data → Result Item ReadFault
item_of d =
    in_object d (
    and_then (and_then (required text_of (codes "name") d) bounded_item_name) (λ name.
    and_then (required price_of (codes "price") d) (λ price.
    and_then (member_or (option_of text_of) (codes "note") None d) (λ note.
    and_then (member_or (list_of text_of) (codes "tags") [] d) (λ tags.
    Ok (record { name = name; price = price; note = note; tags = tags }))))))

abbrev pub data_of_item : Item → Data
data_of_item x =
    object (put (codes "tags") (data_of_list data_of_text x.tags)
    (put (codes "note") (data_of_option data_of_text x.note)
    (put (codes "price") (data_of_price x.price)
    (put (codes "name") (data_of_text x.name) no_members))))

pub item_no_float : (x : Item) → has_float (data_of_item x) ≡ false
item_no_float x =
    let members-1 = put (codes "name") (data_of_text x.name) no_members in
    let members-2 = put (codes "price") (data_of_price x.price) members-1 in
    let members-3 = put (codes "note") (data_of_option data_of_text x.note) members-2 in
    put_no_float (codes "tags") (data_of_list data_of_text x.tags) members-3
    (list_no_float data_of_text text_no_float x.tags)
    (put_no_float (codes "note") (data_of_option data_of_text x.note) members-2
    (option_no_float data_of_text text_no_float x.note)
    (put_no_float (codes "price") (data_of_price x.price) members-1
    (price_no_float x.price)
    (put_no_float (codes "name") (data_of_text x.name) no_members
    (text_no_float x.name) refl)))
