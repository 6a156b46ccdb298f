-- What `Item` is read from, and written as. Written by tools/new-type.
use Rattle.std.specs.Prelude.{◌≡◌, ◌++◌, List, [], false, Result, Ok, codes, refl}
use Rattle.serde_json.specs.Data.{Data, object, put, no_members}
use Rattle.serde_json.specs.Written.{has_float}
use Rattle.web_texts.specs.Pairs.{Pair}
use Rattle.web_codec.specs.Answers.{and_then}
use Rattle.web_codec.specs.DataReaders.{in_object, required, bool_of, text_of}
use Rattle.web_codec.specs.DataWriters.{data_of_bool, data_of_signed, data_of_text, bool_no_float}
use Rattle.web_codec.specs.DataWriters.{signed_no_float, text_no_float, put_no_float}
use Rattle.web_codec.specs.FieldReaders.{required_field, bool_field, text_field}
use Rattle.web_codec.specs.FieldWriters.{named_pairs, texts_of_bool, texts_of_signed, texts_of_text}
use Rattle.web_codec.specs.WholeNumbers.{i64_of, i64_field}
use Rattle.web_codec.specs.declared.faults.ReadFault.{ReadFault}
use Rattle.board_store.specs.declared.item.Item.{Item}

abbrev pub item_of : Data → Result Item ReadFault
item_of d =
    in_object d (
    and_then (required i64_of (codes "id") d) (λ id.
    and_then (required text_of (codes "title") d) (λ title.
    and_then (required i64_of (codes "seats") d) (λ seats.
    and_then (required bool_of (codes "done") d) (λ done.
    Ok (record { id = id; title = title; seats = seats; done = done }))))))

abbrev pub data_of_item : Item → Data
data_of_item x =
    object (put (codes "done") (data_of_bool x.done)
    (put (codes "seats") (data_of_signed x.seats)
    (put (codes "title") (data_of_text x.title)
    (put (codes "id") (data_of_signed x.id) no_members))))

pub item_no_float : (x : Item) → has_float (data_of_item x) ≡ false
item_no_float x =
    let members-1 = put (codes "id") (data_of_signed x.id) no_members in
    let members-2 = put (codes "title") (data_of_text x.title) members-1 in
    let members-3 = put (codes "seats") (data_of_signed x.seats) members-2 in
    put_no_float (codes "done") (data_of_bool x.done) members-3
    (bool_no_float x.done)
    (put_no_float (codes "seats") (data_of_signed x.seats) members-2
    (signed_no_float x.seats)
    (put_no_float (codes "title") (data_of_text x.title) members-1
    (text_no_float x.title)
    (put_no_float (codes "id") (data_of_signed x.id) no_members
    (signed_no_float x.id) refl)))

abbrev pub item_of_pairs : List Pair → Result Item ReadFault
item_of_pairs pairs =
    and_then (required_field i64_field (codes "id") pairs) (λ id.
    and_then (required_field text_field (codes "title") pairs) (λ title.
    and_then (required_field i64_field (codes "seats") pairs) (λ seats.
    and_then (required_field bool_field (codes "done") pairs) (λ done.
    Ok (record { id = id; title = title; seats = seats; done = done })))))

abbrev pub pairs_of_item : Item → List Pair
pairs_of_item x =
    ((([] ++ named_pairs (codes "id") (texts_of_signed x.id))
    ++ named_pairs (codes "title") (texts_of_text x.title))
    ++ named_pairs (codes "seats") (texts_of_signed x.seats))
    ++ named_pairs (codes "done") (texts_of_bool x.done)
