-- What the header fields of a message say of its body.
use Rattle.std.specs.Prelude.{ℕ, ◌==◌, ◌&&◌, ◌||◌, Bool, false, List, [], ◌∷◌, if◌then◌else◌}
use Rattle.std.specs.Prelude.{codes, length, nat_le, take, Option, None, Some, Result, Ok, Err}
use Rattle.std.specs.List.{before_first}
use Rattle.std.specs.Option.{ok_or, option_and_then, option_map, option_map_or}
use Rattle.std.specs.Str.{str_eq_ignore_ascii_case}
use Rattle.http_header.specs.FieldValue.{FieldValue}
use Rattle.http_header.specs.HeaderMap.{Entries, get}
use Rattle.web_texts.specs.Blanks.{trimmed}
use Rattle.web_texts.specs.HeaderTexts.{header_text}
use Rattle.web_texts.specs.MediaTypes.{MediaType, charset_of, media_type_of}
use Rattle.web_texts.specs.declared.errors.ContentTypeError.{ContentTypeError}
use Rattle.web_texts.specs.declared.errors.ContentTypeError.TheVariants as content
use Rattle.web_texts.specs.declared.errors.ParseError.{ParseError}
use Rattle.web_texts.specs.declared.errors.ParseError.TheVariants.{Header}

abbrev pub first_content_type : Entries FieldValue → Option FieldValue
first_content_type fields = get fields (codes "content-type")

abbrev pub first_transfer_encoding : Entries FieldValue → Option FieldValue
first_transfer_encoding fields = get fields (codes "transfer-encoding")

-- the text before the first semicolon, or all of it where there is none
abbrev pub before_semicolon : List ℕ → List ℕ
before_semicolon text = before_first (λ b. b == 59) text

-- the first Content-Type up to its semicolon, trimmed; empty where there is no such header text
abbrev pub content_type_of : Entries FieldValue → List ℕ
content_type_of fields =
    let text = option_and_then header_text (first_content_type fields) in
    option_map_or (λ t. trimmed (before_semicolon t)) text []

abbrev pub type_in : Option FieldValue → Result (Option MediaType) ContentTypeError
type_in None = Ok None
type_in (Some value) =
    let read = option_and_then media_type_of (header_text value) in
    ok_or (option_map Some read) content.ParseError

-- the media type of the first Content-Type, untrimmed; none where there is no Content-Type
abbrev pub mime_type_of : Entries FieldValue → Result (Option MediaType) ContentTypeError
mime_type_of fields = type_in (first_content_type fields)

abbrev pub is_utf8_name : List ℕ → Bool
is_utf8_name charset =
    str_eq_ignore_ascii_case charset (codes "utf-8")
    || str_eq_ignore_ascii_case charset (codes "utf8")

abbrev pub charset_test : Option (List ℕ) → Result (Unit {0}) ContentTypeError
charset_test None = Ok tt
charset_test (Some charset) =
    if is_utf8_name charset then Ok tt else Err content.UnknownEncoding

abbrev pub type_test : Result (Option MediaType) ContentTypeError
    → Result (Unit {0}) ContentTypeError
type_test (Ok None) = Ok tt
type_test (Ok (Some type)) = charset_test (charset_of type)
type_test (Err error) = Err error

-- Ok where the body is UTF-8: where there is no media type, no charset, or that one
abbrev pub encoding_of : Entries FieldValue → Result (Unit {0}) ContentTypeError
encoding_of fields = type_test (mime_type_of fields)

abbrev pub starts_with_word : List ℕ → List ℕ → Bool
starts_with_word word text =
    nat_le (length word) (length text)
    && str_eq_ignore_ascii_case (take (length word) text) word

-- the word stands somewhere in the text, in any ASCII case
abbrev pub contains_word : List ℕ → List ℕ → Bool
contains_word word [] = false
contains_word word (b ∷ rest) = starts_with_word word (b ∷ rest) || contains_word word rest

abbrev pub chunked_in : Option FieldValue → Result Bool ParseError
chunked_in None = Ok false
chunked_in (Some value) =
    ok_or (option_map (contains_word (codes "chunked")) (header_text value)) Header

-- whether the first Transfer-Encoding has the word `chunked`
abbrev pub is_chunked_of : Entries FieldValue → Result Bool ParseError
is_chunked_of fields = chunked_in (first_transfer_encoding fields)
