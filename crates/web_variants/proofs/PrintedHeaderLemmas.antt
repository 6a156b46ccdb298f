-- The headers of a variant, put one by one.
use Rattle.std.proofs.Common.{◌≡◌, ℕ, Bool, true, false, List, [], Option, None, Some, IfSome, refl, ap, ◌∙◌}
use Rattle.std.specs.Prelude.{◌++◌, ◌&&◌, codes, Ok, Err}
use Rattle.std.proofs.lemmas.Bool.{false≢true}
use Rattle.http_header.specs.FieldValue.{FieldValue, IsFieldValue, plain_value}
use Rattle.http_header.specs.HeaderMap.{insert}
use Rattle.web_texts.specs.MediaTypeTexts.{media_type_text}
use Rattle.web_texts.specs.declared.memory.Fail.{Fail}
use Rattle.web_texts.specs.declared.memory.Fail.TheVariants as fail
use Rattle.web_headers.specs.Codings.{encoding_text}
use Rattle.web_texts.specs.HeaderValues.{GivesValue}
use Rattle.web_headers.specs.declared.codings.ContentEncoding.TheVariants as coding
use Rattle.web_headers.specs.declared.codings.Encoding.{Encoding}
use Rattle.web_headers.specs.declared.codings.Encoding.TheVariants as encoding
use Rattle.web_reply.specs.HeaderSteps.{is_field_value}
use Rattle.web_reply.proofs.HeaderStepLemmas.{is_false, value_decides}
use Rattle.web_variants.specs.Acceptance.{Headers, is_identity}
use Rattle.web_variants.specs.PrintedHeaders.{OkWhere, insert_some}
use Rattle.web_variants.specs.StoredVariants.{content_encoding, header_of, is_language_value, is_printable, variant_headers, vary}
use Rattle.web_variants.specs.declared.stored_variants.Variant.{Variant}

-- the value of what is printed, if it is

pub value_fits : (E : Type 0) (printed : Option (List ℕ)) (value : FieldValue) → IfSome printed (λ text. value ≡ plain_value text) → IsFieldValue value.bytes
    → IfSome printed (λ text. OkWhere {E = E} (is_field_value text) (λ v. v ≡ plain_value text) (Ok value))
value_fits E None value is fits = tt
value_fits E (Some text) value is fits = ((value_decides text).1 (rw is at fits), is)

pub value_fails : {E : Type 0} (printed : Option (List ℕ)) (error : Fail E) → IfSome printed (λ text. GivesValue (plain_value text) (Err error))
    → IfSome printed (λ text. OkWhere {T = FieldValue} (is_field_value text) (λ v. v ≡ plain_value text) (Err error))
value_fails None error is = tt
value_fails (Some text) fail.NoMemory is = tt
value_fails (Some text) (fail.Of e) is = is_false _ (value_decides text) is

pub put_fits : (printed : Option (List ℕ)) (old new : Headers) (name : List ℕ) (value : FieldValue)
    → IfSome printed (λ text. (is_field_value text ≡ true) × (value ≡ plain_value text)) → new ≡ insert old name value
    → IfSome printed (λ text. (is_field_value text ≡ true) × (new ≡ insert old name (plain_value text)))
put_fits None old new name value is put = tt
put_fits (Some text) old new name value is put = (is.0, put ∙ ap (insert old name) is.1)

pub identity_fits : (c : Encoding) → is_identity c ≡ true → is_field_value (encoding_text c) ≡ true
identity_fits (encoding.Known coding.Identity) e = refl
identity_fits (encoding.Known coding.Brotli) e = absurd (false≢true e)
identity_fits (encoding.Known coding.Deflate) e = absurd (false≢true e)
identity_fits (encoding.Known coding.Gzip) e = absurd (false≢true e)
identity_fits (encoding.Known coding.Zstd) e = absurd (false≢true e)
identity_fits (encoding.Unknown text) e = absurd (false≢true e)

put_each : (coding language : Option (List ℕ)) (media_type : List ℕ)
    → insert (insert (insert_some (insert_some [] (codes "content-encoding") coding) (codes "content-language") language) (codes "content-type") (plain_value media_type)) (codes "vary") (plain_value (codes "accept, accept-language, accept-encoding"))
    ≡ header_of (codes "content-encoding") coding ++ (header_of (codes "content-language") language ++ (header_of (codes "content-type") (Some media_type) ++ vary))
put_each None None media_type = refl
put_each None (Some tag) media_type = refl
put_each (Some name) None media_type = refl
put_each (Some name) (Some tag) media_type = refl

-- the map after each header
pub put_all : (v : Variant) (first second third fourth : Headers)
    → first ≡ insert_some [] (codes "content-encoding") (content_encoding v.coding)
    → second ≡ insert_some first (codes "content-language") v.language
    → third ≡ insert second (codes "content-type") (plain_value (media_type_text v.media_type))
    → fourth ≡ insert third (codes "vary") (plain_value (codes "accept, accept-language, accept-encoding"))
    → fourth ≡ variant_headers v
put_all v first second third fourth one two three four =
    rw (four, three, two, one) (put_each (content_encoding v.coding) v.language (media_type_text v.media_type))

all_three : (a b c : Bool) → c ≡ true → b ≡ true → a ≡ true → (a && (b && c)) ≡ true
all_three a b c third second first = rw (third, second, first) refl

pub is_printed : (v : Variant) → is_field_value (encoding_text v.coding) ≡ true → is_language_value v.language ≡ true → is_field_value (media_type_text v.media_type) ≡ true → is_printable v ≡ true
is_printed v coding language media_type = all_three _ _ _ coding language media_type

third_fails : (a b : Bool) → (a && (b && false)) ≡ false
third_fails true true = refl
third_fails true false = refl
third_fails false b = refl

second_fails : (a c : Bool) → (a && (false && c)) ≡ false
second_fails true c = refl
second_fails false c = refl

pub coding_fails : (v : Variant) → is_field_value (encoding_text v.coding) ≡ false → is_printable v ≡ false
coding_fails v e = rw e (third_fails (is_field_value (media_type_text v.media_type)) (is_language_value v.language))

pub language_fails : (v : Variant) → is_language_value v.language ≡ false → is_printable v ≡ false
language_fails v e = rw e (second_fails (is_field_value (media_type_text v.media_type)) (is_field_value (encoding_text v.coding)))

pub media_type_fails : (v : Variant) → is_field_value (media_type_text v.media_type) ≡ false → is_printable v ≡ false
media_type_fails v e = rw e refl
