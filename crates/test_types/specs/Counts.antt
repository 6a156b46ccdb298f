-- What `Counts` is read from, and written as. Written by tools/new-type.
use Rattle.std.specs.Prelude.{◌≡◌, ◌++◌, ℕ, List, [], false, Result, Ok, Err, codes, refl, nat_lt}
use Rattle.std.specs.Prelude.{if◌then◌else◌}
use Rattle.serde_json.specs.Data.{Data, object, put, no_members}
use Rattle.serde_json.specs.Written.{has_float}
use Rattle.web_texts.specs.Pairs.{Pair}
use Rattle.web_codec.specs.Answers.{and_then}
use Rattle.web_codec.specs.DataReaders.{in_object, required, member_or}
use Rattle.web_codec.specs.DataWriters.{data_of_unsigned, unsigned_no_float, put_no_float}
use Rattle.web_codec.specs.FieldReaders.{required_field, field_or}
use Rattle.web_codec.specs.FieldWriters.{named_pairs, texts_of_unsigned}
use Rattle.web_codec.specs.WholeNumbers.{u16_of, u32_of, u64_of, u8_of, usize_of, u16_field}
use Rattle.web_codec.specs.WholeNumbers.{u32_field, u64_field, u8_field, usize_field}
use Rattle.web_codec.specs.declared.faults.ReadFault.{ReadFault}
use Rattle.test_types.specs.declared.counts.Counts.{Counts}

abbrev pub bounded_counts_place : ℕ → Result ℕ ReadFault
bounded_counts_place x =
    if nat_lt 9 x
    then Err (record { text = codes "place: not in 0..=9" })
    else Ok x

abbrev pub counts_of : Data → Result Counts ReadFault
counts_of d =
    in_object d (
    and_then (required u8_of (codes "byte") d) (λ byte.
    and_then (required u16_of (codes "port") d) (λ port.
    and_then (required u32_of (codes "medium") d) (λ medium.
    and_then (member_or u64_of (codes "large") 0 d) (λ large.
    and_then (and_then (member_or usize_of (codes "place") 0 d) bounded_counts_place) (λ place.
    Ok (record { byte = byte; port = port; medium = medium; large = large; place = place })))))))

abbrev pub data_of_counts : Counts → Data
data_of_counts x =
    object (put (codes "place") (data_of_unsigned x.place)
    (put (codes "large") (data_of_unsigned x.large)
    (put (codes "medium") (data_of_unsigned x.medium)
    (put (codes "port") (data_of_unsigned x.port)
    (put (codes "byte") (data_of_unsigned x.byte) no_members)))))

pub counts_no_float : (x : Counts) → has_float (data_of_counts x) ≡ false
counts_no_float x =
    let members-1 = put (codes "byte") (data_of_unsigned x.byte) no_members in
    let members-2 = put (codes "port") (data_of_unsigned x.port) members-1 in
    let members-3 = put (codes "medium") (data_of_unsigned x.medium) members-2 in
    let members-4 = put (codes "large") (data_of_unsigned x.large) members-3 in
    put_no_float (codes "place") (data_of_unsigned x.place) members-4
    (unsigned_no_float x.place)
    (put_no_float (codes "large") (data_of_unsigned x.large) members-3
    (unsigned_no_float x.large)
    (put_no_float (codes "medium") (data_of_unsigned x.medium) members-2
    (unsigned_no_float x.medium)
    (put_no_float (codes "port") (data_of_unsigned x.port) members-1
    (unsigned_no_float x.port)
    (put_no_float (codes "byte") (data_of_unsigned x.byte) no_members
    (unsigned_no_float x.byte) refl))))

abbrev pub counts_of_pairs : List Pair → Result Counts ReadFault
counts_of_pairs pairs =
    and_then (required_field u8_field (codes "byte") pairs) (λ byte.
    and_then (required_field u16_field (codes "port") pairs) (λ port.
    and_then (required_field u32_field (codes "medium") pairs) (λ medium.
    and_then (field_or u64_field (codes "large") 0 pairs) (λ large.
    and_then
    (and_then (field_or usize_field (codes "place") 0 pairs) bounded_counts_place)
    (λ place.
    Ok (record { byte = byte; port = port; medium = medium; large = large; place = place }))))))

abbrev pub pairs_of_counts : Counts → List Pair
pairs_of_counts x =
    (((([] ++ named_pairs (codes "byte") (texts_of_unsigned x.byte))
    ++ named_pairs (codes "port") (texts_of_unsigned x.port))
    ++ named_pairs (codes "medium") (texts_of_unsigned x.medium))
    ++ named_pairs (codes "large") (texts_of_unsigned x.large))
    ++ named_pairs (codes "place") (texts_of_unsigned x.place)
