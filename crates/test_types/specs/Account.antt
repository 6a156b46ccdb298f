-- What `Account` is read from, and written as. Written by tools/new-type.
use Rattle.std.specs.Prelude.{◌≡◌, ◌||◌, ℤ, pos, negsuc, [], false, Result, Ok, Err, codes, refl}
use Rattle.std.specs.Prelude.{int_lt, if◌then◌else◌}
use Rattle.serde_json.specs.Data.{Data, object, put, no_members}
use Rattle.serde_json.specs.Written.{has_float}
use Rattle.web_codec.specs.Answers.{and_then}
use Rattle.web_codec.specs.DataReaders.{in_object, member_or, list_of}
use Rattle.web_codec.specs.DataWriters.{data_of_list, data_of_signed, data_of_unsigned}
use Rattle.web_codec.specs.DataWriters.{list_no_float, signed_no_float, unsigned_no_float}
use Rattle.web_codec.specs.DataWriters.{put_no_float}
use Rattle.web_codec.specs.WholeNumbers.{i64_of, u64_of}
use Rattle.web_codec.specs.declared.faults.ReadFault.{ReadFault}
use Rattle.test_types.specs.declared.account.Account.{Account}
use Rattle.test_types.specs.Price.{price_of, data_of_price, price_no_float}

abbrev pub bounded_account_change : ℤ → Result ℤ ReadFault
bounded_account_change x =
    if int_lt x (negsuc 4) || int_lt (pos 5) x
    then Err (record { text = codes "change: not in -5..=5" })
    else Ok x

abbrev pub account_of : Data → Result Account ReadFault
account_of d =
    in_object d (
    and_then (member_or (list_of price_of) (codes "older") [] d) (λ older.
    and_then
    (and_then (member_or i64_of (codes "change") (negsuc 0) d) bounded_account_change)
    (λ change.
    and_then (member_or u64_of (codes "count") 1 d) (λ count.
    Ok (record { older = older; change = change; count = count })))))

abbrev pub data_of_account : Account → Data
data_of_account x =
    object (put (codes "count") (data_of_unsigned x.count)
    (put (codes "change") (data_of_signed x.change)
    (put (codes "older") (data_of_list data_of_price x.older) no_members)))

pub account_no_float : (x : Account) → has_float (data_of_account x) ≡ false
account_no_float x =
    let members-1 = put (codes "older") (data_of_list data_of_price x.older) no_members in
    let members-2 = put (codes "change") (data_of_signed x.change) members-1 in
    put_no_float (codes "count") (data_of_unsigned x.count) members-2
    (unsigned_no_float x.count)
    (put_no_float (codes "change") (data_of_signed x.change) members-1
    (signed_no_float x.change)
    (put_no_float (codes "older") (data_of_list data_of_price x.older) no_members
    (list_no_float data_of_price price_no_float x.older) refl))
