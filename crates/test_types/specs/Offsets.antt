-- What `Offsets` is read from, and written as. Written by tools/new-type.
use Rattle.std.specs.Prelude.{◌≡◌, ◌++◌, ◌||◌, ℤ, pos, negsuc, List, [], false, Result, Ok, Err}
use Rattle.std.specs.Prelude.{codes, refl, int_lt, if◌then◌else◌}
use Rattle.serde_json.specs.Data.{Data, object, put, no_members}
use Rattle.serde_json.specs.Written.{has_float}
use Rattle.web_texts.specs.Pairs.{Pair}
use Rattle.web_codec.specs.Answers.{and_then}
use Rattle.web_codec.specs.DataReaders.{in_object, required, member_or}
use Rattle.web_codec.specs.DataWriters.{data_of_signed, signed_no_float, put_no_float}
use Rattle.web_codec.specs.FieldReaders.{required_field, field_or}
use Rattle.web_codec.specs.FieldWriters.{named_pairs, texts_of_signed}
use Rattle.web_codec.specs.WholeNumbers.{i16_of, i32_of, i64_of, i8_of, isize_of, i16_field}
use Rattle.web_codec.specs.WholeNumbers.{i32_field, i64_field, i8_field, isize_field}
use Rattle.web_codec.specs.declared.faults.ReadFault.{ReadFault}
use Rattle.test_types.specs.declared.offsets.Offsets.{Offsets}

abbrev pub bounded_offsets_change : ℤ → Result ℤ ReadFault
bounded_offsets_change x =
    if int_lt x (negsuc 999) || int_lt (pos 1000) x
    then Err (record { text = codes "change: not in -1000..=1000" })
    else Ok x

abbrev pub offsets_of : Data → Result Offsets ReadFault
offsets_of d =
    in_object d (
    and_then (required i8_of (codes "small") d) (λ small.
    and_then (required i16_of (codes "shift") d) (λ shift.
    and_then (and_then (required i32_of (codes "change") d) bounded_offsets_change) (λ change.
    and_then (member_or i64_of (codes "balance") (negsuc 0) d) (λ balance.
    and_then (member_or isize_of (codes "offset") (pos 0) d) (λ offset.
    Ok (record {
      small = small;
      shift = shift;
      change = change;
      balance = balance;
      offset = offset;
    })))))))

abbrev pub data_of_offsets : Offsets → Data
data_of_offsets x =
    object (put (codes "offset") (data_of_signed x.offset)
    (put (codes "balance") (data_of_signed x.balance)
    (put (codes "change") (data_of_signed x.change)
    (put (codes "shift") (data_of_signed x.shift)
    (put (codes "small") (data_of_signed x.small) no_members)))))

pub offsets_no_float : (x : Offsets) → has_float (data_of_offsets x) ≡ false
offsets_no_float x =
    let members-1 = put (codes "small") (data_of_signed x.small) no_members in
    let members-2 = put (codes "shift") (data_of_signed x.shift) members-1 in
    let members-3 = put (codes "change") (data_of_signed x.change) members-2 in
    let members-4 = put (codes "balance") (data_of_signed x.balance) members-3 in
    put_no_float (codes "offset") (data_of_signed x.offset) members-4
    (signed_no_float x.offset)
    (put_no_float (codes "balance") (data_of_signed x.balance) members-3
    (signed_no_float x.balance)
    (put_no_float (codes "change") (data_of_signed x.change) members-2
    (signed_no_float x.change)
    (put_no_float (codes "shift") (data_of_signed x.shift) members-1
    (signed_no_float x.shift)
    (put_no_float (codes "small") (data_of_signed x.small) no_members
    (signed_no_float x.small) refl))))

abbrev pub offsets_of_pairs : List Pair → Result Offsets ReadFault
offsets_of_pairs pairs =
    and_then (required_field i8_field (codes "small") pairs) (λ small.
    and_then (required_field i16_field (codes "shift") pairs) (λ shift.
    and_then
    (and_then (required_field i32_field (codes "change") pairs) bounded_offsets_change)
    (λ change.
    and_then (field_or i64_field (codes "balance") (negsuc 0) pairs) (λ balance.
    and_then (field_or isize_field (codes "offset") (pos 0) pairs) (λ offset.
    Ok (record {
      small = small;
      shift = shift;
      change = change;
      balance = balance;
      offset = offset;
    }))))))

abbrev pub pairs_of_offsets : Offsets → List Pair
pairs_of_offsets x =
    (((([] ++ named_pairs (codes "small") (texts_of_signed x.small))
    ++ named_pairs (codes "shift") (texts_of_signed x.shift))
    ++ named_pairs (codes "change") (texts_of_signed x.change))
    ++ named_pairs (codes "balance") (texts_of_signed x.balance))
    ++ named_pairs (codes "offset") (texts_of_signed x.offset)
