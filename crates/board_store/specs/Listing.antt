-- What `Listing` is read from, and written as. Written by tools/new-type.
use Rattle.std.specs.Prelude.{◌≡◌, false, None, Result, Ok, codes, refl}
use Rattle.serde_json.specs.Data.{Data, object, put, no_members}
use Rattle.serde_json.specs.Written.{has_float}
use Rattle.web_codec.specs.Answers.{and_then}
use Rattle.web_codec.specs.DataReaders.{in_object, required, member_or, list_of, option_of}
use Rattle.web_codec.specs.DataWriters.{data_of_list, data_of_option, data_of_signed, list_no_float}
use Rattle.web_codec.specs.DataWriters.{option_no_float, signed_no_float, put_no_float}
use Rattle.web_codec.specs.WholeNumbers.{i64_of}
use Rattle.web_codec.specs.declared.faults.ReadFault.{ReadFault}
use Rattle.board_store.specs.declared.listing.Listing.{Listing}
use Rattle.board_store.specs.Item.{item_of, data_of_item, item_no_float}

abbrev pub listing_of : Data → Result Listing ReadFault
listing_of d =
    in_object d (
    and_then (required (list_of item_of) (codes "items") d) (λ items.
    and_then (member_or (option_of i64_of) (codes "next") None d) (λ next.
    Ok (record { items = items; next = next }))))

abbrev pub data_of_listing : Listing → Data
data_of_listing x =
    object (put (codes "next") (data_of_option data_of_signed x.next)
    (put (codes "items") (data_of_list data_of_item x.items) no_members))

pub listing_no_float : (x : Listing) → has_float (data_of_listing x) ≡ false
listing_no_float x =
    let members-1 = put (codes "items") (data_of_list data_of_item x.items) no_members in
    put_no_float (codes "next") (data_of_option data_of_signed x.next) members-1
    (option_no_float data_of_signed signed_no_float x.next)
    (put_no_float (codes "items") (data_of_list data_of_item x.items) no_members
    (list_no_float data_of_item item_no_float x.items) refl)
