-- What `Posted` is read from, and written as. Written by tools/new-type.
use Rattle.std.specs.Prelude.{◌≡◌, ◌++◌, List, [], false, Result, Ok, codes, refl}
use Rattle.serde_json.specs.Data.{Data, object, put, no_members}
use Rattle.serde_json.specs.Written.{has_float}
use Rattle.web_texts.specs.Pairs.{Pair}
use Rattle.web_codec.specs.Answers.{and_then}
use Rattle.web_codec.specs.DataReaders.{in_object, member_or, text_of}
use Rattle.web_codec.specs.DataWriters.{data_of_text, text_no_float, put_no_float}
use Rattle.web_codec.specs.FieldReaders.{field_or, text_field}
use Rattle.web_codec.specs.FieldWriters.{named_pairs, texts_of_text}
use Rattle.web_codec.specs.declared.faults.ReadFault.{ReadFault}
use Rattle.example_site.specs.declared.posted.Posted.{Posted}

abbrev pub posted_of : Data → Result Posted ReadFault
posted_of d =
    in_object d (
    and_then (member_or text_of (codes "name") (codes "") d) (λ name.
    and_then (member_or text_of (codes "seats") (codes "") d) (λ seats.
    Ok (record { name = name; seats = seats }))))

abbrev pub data_of_posted : Posted → Data
data_of_posted x =
    object (put (codes "seats") (data_of_text x.seats)
    (put (codes "name") (data_of_text x.name) no_members))

pub posted_no_float : (x : Posted) → has_float (data_of_posted x) ≡ false
posted_no_float x =
    let members-1 = put (codes "name") (data_of_text x.name) no_members in
    put_no_float (codes "seats") (data_of_text x.seats) members-1
    (text_no_float x.seats)
    (put_no_float (codes "name") (data_of_text x.name) no_members
    (text_no_float x.name) refl)

abbrev pub posted_of_pairs : List Pair → Result Posted ReadFault
posted_of_pairs pairs =
    and_then (field_or text_field (codes "name") (codes "") pairs) (λ name.
    and_then (field_or text_field (codes "seats") (codes "") pairs) (λ seats.
    Ok (record { name = name; seats = seats })))

abbrev pub pairs_of_posted : Posted → List Pair
pairs_of_posted x =
    ([] ++ named_pairs (codes "name") (texts_of_text x.name))
    ++ named_pairs (codes "seats") (texts_of_text x.seats)
