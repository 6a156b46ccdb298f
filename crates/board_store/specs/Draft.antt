-- What `Draft` is read from, and written as. Written by tools/new-type.
use Rattle.std.specs.Prelude.{◌≡◌, ◌++◌, pos, List, [], false, None, Result, Ok, codes, refl}
use Rattle.serde_json.specs.Data.{Data, object, put, no_members}
use Rattle.serde_json.specs.Written.{has_float}
use Rattle.web_texts.specs.Pairs.{Pair}
use Rattle.web_codec.specs.Answers.{and_then}
use Rattle.web_codec.specs.DataReaders.{in_object, member_or, bool_of, option_of, text_of}
use Rattle.web_codec.specs.DataWriters.{data_of_bool, data_of_option, data_of_signed, data_of_text}
use Rattle.web_codec.specs.DataWriters.{bool_no_float, option_no_float, signed_no_float}
use Rattle.web_codec.specs.DataWriters.{text_no_float, put_no_float}
use Rattle.web_codec.specs.FieldReaders.{field_or, bool_field, option_field, text_field}
use Rattle.web_codec.specs.FieldWriters.{named_pairs, texts_of_bool, texts_of_option}
use Rattle.web_codec.specs.FieldWriters.{texts_of_signed, texts_of_text}
use Rattle.web_codec.specs.WholeNumbers.{i64_of, i64_field}
use Rattle.web_codec.specs.declared.faults.ReadFault.{ReadFault}
use Rattle.board_store.specs.declared.draft.Draft.{Draft}

abbrev pub draft_of : Data → Result Draft ReadFault
draft_of d =
    in_object d (
    and_then (member_or (option_of text_of) (codes "title") None d) (λ title.
    and_then (member_or i64_of (codes "seats") (pos 1) d) (λ seats.
    and_then (member_or bool_of (codes "done") false d) (λ done.
    Ok (record { title = title; seats = seats; done = done })))))

abbrev pub data_of_draft : Draft → Data
data_of_draft x =
    object (put (codes "done") (data_of_bool x.done)
    (put (codes "seats") (data_of_signed x.seats)
    (put (codes "title") (data_of_option data_of_text x.title) no_members)))

pub draft_no_float : (x : Draft) → has_float (data_of_draft x) ≡ false
draft_no_float x =
    let members-1 = put (codes "title") (data_of_option data_of_text x.title) no_members in
    let members-2 = put (codes "seats") (data_of_signed x.seats) members-1 in
    put_no_float (codes "done") (data_of_bool x.done) members-2
    (bool_no_float x.done)
    (put_no_float (codes "seats") (data_of_signed x.seats) members-1
    (signed_no_float x.seats)
    (put_no_float (codes "title") (data_of_option data_of_text x.title) no_members
    (option_no_float data_of_text text_no_float x.title) refl))

abbrev pub draft_of_pairs : List Pair → Result Draft ReadFault
draft_of_pairs pairs =
    and_then (field_or (option_field text_field) (codes "title") None pairs) (λ title.
    and_then (field_or i64_field (codes "seats") (pos 1) pairs) (λ seats.
    and_then (field_or bool_field (codes "done") false pairs) (λ done.
    Ok (record { title = title; seats = seats; done = done }))))

abbrev pub pairs_of_draft : Draft → List Pair
pairs_of_draft x =
    (([] ++ named_pairs (codes "title") (texts_of_option texts_of_text x.title))
    ++ named_pairs (codes "seats") (texts_of_signed x.seats))
    ++ named_pairs (codes "done") (texts_of_bool x.done)
