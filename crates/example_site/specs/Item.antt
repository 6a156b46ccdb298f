-- What `Item` is read from, and written as. Written by tools/new-type.
use Rattle.std.specs.Prelude.{◌≡◌, ◌++◌, List, [], false, Result, Ok, codes, refl}
use Rattle.serde_json.specs.Data.{Data, object, put, no_members}
use Rattle.serde_json.specs.Written.{has_float}
use Rattle.web_texts.specs.Pairs.{Pair}
use Rattle.web_codec.specs.Answers.{and_then}
use Rattle.web_codec.specs.DataReaders.{in_object, required, member_or, list_of, text_of}
use Rattle.web_codec.specs.DataWriters.{data_of_list, data_of_text, data_of_unsigned, list_no_float}
use Rattle.web_codec.specs.DataWriters.{text_no_float, unsigned_no_float, put_no_float}
use Rattle.web_codec.specs.FieldReaders.{required_field, all_fields, text_field}
use Rattle.web_codec.specs.FieldWriters.{named_pairs, texts_of_list, texts_of_text}
use Rattle.web_codec.specs.FieldWriters.{texts_of_unsigned}
use Rattle.web_codec.specs.WholeNumbers.{u64_of, u64_field}
use Rattle.web_codec.specs.declared.faults.ReadFault.{ReadFault}
use Rattle.example_site.specs.declared.item.Item.{Item}

abbrev pub item_of : Data → Result Item ReadFault
item_of d =
    in_object d (
    and_then (required u64_of (codes "id") d) (λ id.
    and_then (required text_of (codes "name") d) (λ name.
    and_then (member_or (list_of text_of) (codes "tags") [] d) (λ tags.
    Ok (record { id = id; name = name; tags = tags })))))

abbrev pub data_of_item : Item → Data
data_of_item x =
    object (put (codes "tags") (data_of_list data_of_text x.tags)
    (put (codes "name") (data_of_text x.name)
    (put (codes "id") (data_of_unsigned x.id) no_members)))

pub item_no_float : (x : Item) → has_float (data_of_item x) ≡ false
item_no_float x =
    let members-1 = put (codes "id") (data_of_unsigned x.id) no_members in
    let members-2 = put (codes "name") (data_of_text x.name) members-1 in
    put_no_float (codes "tags") (data_of_list data_of_text x.tags) members-2
    (list_no_float data_of_text text_no_float x.tags)
    (put_no_float (codes "name") (data_of_text x.name) members-1
    (text_no_float x.name)
    (put_no_float (codes "id") (data_of_unsigned x.id) no_members
    (unsigned_no_float x.id) refl))

abbrev pub item_of_pairs : List Pair → Result Item ReadFault
item_of_pairs pairs =
    and_then (required_field u64_field (codes "id") pairs) (λ id.
    and_then (required_field text_field (codes "name") pairs) (λ name.
    and_then (all_fields text_field (codes "tags") pairs) (λ tags.
    Ok (record { id = id; name = name; tags = tags }))))

abbrev pub pairs_of_item : Item → List Pair
pairs_of_item x =
    (([] ++ named_pairs (codes "id") (texts_of_unsigned x.id))
    ++ named_pairs (codes "name") (texts_of_text x.name))
    ++ named_pairs (codes "tags") (texts_of_list texts_of_text x.tags)
