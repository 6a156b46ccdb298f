-- The usual spellings of JSON and of forms name these types.
use Rattle.std.proofs.Common.{◌≡◌, Bool, true, false, ◌&&◌, [], refl}
use Rattle.std.specs.Prelude.{Option, None, Some, codes}
use Rattle.std.specs.Option.{option_and_then, option_map_or}
use Rattle.std.specs.Str.{str_eq_ignore_ascii_case}
use Rattle.std.proofs.lemmas.Slice.Eq.{bytes_eq-Decides}
use Rattle.http_header.specs.FieldValue.{FieldValue}
use Rattle.http_header.specs.HeaderMap.{Entries}
use Rattle.web_texts.specs.Blanks.{trimmed}
use Rattle.web_texts.specs.Tokens.{is_token_byte}
use Rattle.web_request.specs.MessageFields.{before_semicolon, first_content_type, type_in, type_test}
use Rattle.web_texts.specs.HeaderTexts.{header_text}
use Rattle.web_decoders.specs.FormHeads.{is_form_of, is_readable}
use Rattle.web_decoders.specs.TypePredicates.{AllowsRead, Predicate, ReadsType}
use Rattle.web_decoders.specs.WrittenTypes.{is_written}

json_in : {P : Type 0} (allows : Predicate P) (predicate : Option P) (value : Option FieldValue)
    → is_written (codes "application/json") value ≡ true → AllowsRead allows predicate (type_in value) true
unfolding is_token_byte
json_in allows predicate None e = absurd (cc)
json_in allows predicate (Some v) e = rw ((bytes_eq-Decides v.bytes (codes "application/json")).0 e) refl

pub json_written : {P : Type 0} (allows : Predicate P) (predicate : Option P) (required : Bool) (headers : Entries FieldValue)
    → is_written (codes "application/json") (first_content_type headers) ≡ true → ReadsType allows predicate required headers true
json_written allows predicate true headers e = json_in allows predicate (first_content_type headers) e
json_written allows predicate false headers e = refl

abbrev form_named : Option FieldValue → Bool
form_named value =
    str_eq_ignore_ascii_case (option_map_or (λ t. trimmed (before_semicolon t)) (option_and_then header_text value) [])
    (codes "application/x-www-form-urlencoded") && is_readable (type_test (type_in value))

form_in : (value : Option FieldValue) → is_written (codes "application/x-www-form-urlencoded") value ≡ true → form_named value ≡ true
unfolding is_token_byte
form_in None e = absurd (cc)
form_in (Some v) e = rw ((bytes_eq-Decides v.bytes (codes "application/x-www-form-urlencoded")).0 e) refl

pub form_written : (headers : Entries FieldValue)
    → is_written (codes "application/x-www-form-urlencoded") (first_content_type headers) ≡ true → is_form_of headers ≡ true
form_written headers e = form_in (first_content_type headers) e
