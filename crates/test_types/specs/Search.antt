-- What `Search` is read from, and written as. Written by tools/new-type.
use Rattle.std.specs.Prelude.{◌≡◌, ◌++◌, ◌||◌, ℕ, List, [], false, None, Result, Ok, Err, codes}
use Rattle.std.specs.Prelude.{refl, nat_lt, if◌then◌else◌}
use Rattle.serde_json.specs.Data.{Data, object, put, no_members}
use Rattle.serde_json.specs.Written.{has_float}
use Rattle.web_texts.specs.Pairs.{Pair}
use Rattle.web_codec.specs.Answers.{and_then}
use Rattle.web_codec.specs.DataReaders.{in_object, required, member_or, bool_of, list_of, option_of}
use Rattle.web_codec.specs.DataReaders.{text_of}
use Rattle.web_codec.specs.DataWriters.{data_of_bool, data_of_list, data_of_option, data_of_text}
use Rattle.web_codec.specs.DataWriters.{data_of_unsigned, bool_no_float, list_no_float}
use Rattle.web_codec.specs.DataWriters.{option_no_float, text_no_float, unsigned_no_float}
use Rattle.web_codec.specs.DataWriters.{put_no_float}
use Rattle.web_codec.specs.FieldReaders.{required_field, field_or, all_fields, bool_field}
use Rattle.web_codec.specs.FieldReaders.{option_field, text_field}
use Rattle.web_codec.specs.FieldWriters.{named_pairs, texts_of_bool, texts_of_list, texts_of_option}
use Rattle.web_codec.specs.FieldWriters.{texts_of_text, texts_of_unsigned}
use Rattle.web_codec.specs.WholeNumbers.{u16_of, u16_field}
use Rattle.web_codec.specs.declared.faults.ReadFault.{ReadFault}
use Rattle.test_types.specs.declared.search.Search.{Search}
use Rattle.test_types.specs.Payment.{payment_of, data_of_payment, payment_no_float, payment_field}
use Rattle.test_types.specs.Payment.{texts_of_payment}

abbrev pub bounded_search_page : ℕ → Result ℕ ReadFault
bounded_search_page x =
    if nat_lt x 1 || nat_lt 1000 x
    then Err (record { text = codes "page: not in 1..=1000" })
    else Ok x

abbrev pub search_of : Data → Result Search ReadFault
search_of d =
    in_object d (
    and_then (required text_of (codes "text") d) (λ text.
    and_then (member_or (list_of text_of) (codes "tag") [] d) (λ tag.
    and_then (and_then (member_or u16_of (codes "page") 1 d) bounded_search_page) (λ page.
    and_then (member_or bool_of (codes "exact") false d) (λ exact.
    and_then (member_or (option_of text_of) (codes "after") None d) (λ after.
    and_then (member_or (option_of payment_of) (codes "paid") None d) (λ paid.
    Ok (record {
      text = text;
      tag = tag;
      page = page;
      exact = exact;
      after = after;
      paid = paid;
    }))))))))

abbrev pub data_of_search : Search → Data
data_of_search x =
    object (put (codes "paid") (data_of_option data_of_payment x.paid)
    (put (codes "after") (data_of_option data_of_text x.after)
    (put (codes "exact") (data_of_bool x.exact)
    (put (codes "page") (data_of_unsigned x.page)
    (put (codes "tag") (data_of_list data_of_text x.tag)
    (put (codes "text") (data_of_text x.text) no_members))))))

pub search_no_float : (x : Search) → has_float (data_of_search x) ≡ false
search_no_float x =
    let members-1 = put (codes "text") (data_of_text x.text) no_members in
    let members-2 = put (codes "tag") (data_of_list data_of_text x.tag) members-1 in
    let members-3 = put (codes "page") (data_of_unsigned x.page) members-2 in
    let members-4 = put (codes "exact") (data_of_bool x.exact) members-3 in
    let members-5 = put (codes "after") (data_of_option data_of_text x.after) members-4 in
    put_no_float (codes "paid") (data_of_option data_of_payment x.paid) members-5
    (option_no_float data_of_payment payment_no_float x.paid)
    (put_no_float (codes "after") (data_of_option data_of_text x.after) members-4
    (option_no_float data_of_text text_no_float x.after)
    (put_no_float (codes "exact") (data_of_bool x.exact) members-3
    (bool_no_float x.exact)
    (put_no_float (codes "page") (data_of_unsigned x.page) members-2
    (unsigned_no_float x.page)
    (put_no_float (codes "tag") (data_of_list data_of_text x.tag) members-1
    (list_no_float data_of_text text_no_float x.tag)
    (put_no_float (codes "text") (data_of_text x.text) no_members
    (text_no_float x.text) refl)))))

abbrev pub search_of_pairs : List Pair → Result Search ReadFault
search_of_pairs pairs =
    and_then (required_field text_field (codes "text") pairs) (λ text.
    and_then (all_fields text_field (codes "tag") pairs) (λ tag.
    and_then (and_then (field_or u16_field (codes "page") 1 pairs) bounded_search_page) (λ page.
    and_then (field_or bool_field (codes "exact") false pairs) (λ exact.
    and_then (field_or (option_field text_field) (codes "after") None pairs) (λ after.
    and_then (field_or (option_field payment_field) (codes "paid") None pairs) (λ paid.
    Ok (record {
      text = text;
      tag = tag;
      page = page;
      exact = exact;
      after = after;
      paid = paid;
    })))))))

abbrev pub pairs_of_search : Search → List Pair
pairs_of_search x =
    ((((([] ++ named_pairs (codes "text") (texts_of_text x.text))
    ++ named_pairs (codes "tag") (texts_of_list texts_of_text x.tag))
    ++ named_pairs (codes "page") (texts_of_unsigned x.page))
    ++ named_pairs (codes "exact") (texts_of_bool x.exact))
    ++ named_pairs (codes "after") (texts_of_option texts_of_text x.after))
    ++ named_pairs (codes "paid") (texts_of_option texts_of_payment x.paid)
