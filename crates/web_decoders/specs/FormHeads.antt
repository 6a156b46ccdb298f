-- What the head of a request says of its form.
use Rattle.std.specs.Prelude.{ℕ, Bool, true, false, ◌&&◌, nat_lt, if◌then◌else◌, codes}
use Rattle.std.specs.Prelude.{Option, None, Some, Result, Ok, Err}
use Rattle.std.specs.Str.{str_eq_ignore_ascii_case}
use Rattle.http_header.specs.FieldValue.{FieldValue}
use Rattle.http_header.specs.HeaderMap.{Entries, get}
use Rattle.web_texts.specs.declared.errors.ContentTypeError.{ContentTypeError}
use Rattle.web_request.specs.MessageFields.{content_type_of, encoding_of}
use Rattle.web_body.specs.declared.head_tests.Declared.{Declared}
use Rattle.web_body.specs.declared.head_tests.Declared.TheVariants.{Nothing, Unreadable, Length}
use Rattle.web_body.specs.declared.message_body.PayloadError.TheVariants.{UnsupportedEncoding}
use Rattle.web_body.specs.declared.errors.form_error.UrlencodedError.{UrlencodedError}
use Rattle.web_body.specs.declared.errors.form_error.UrlencodedError.TheVariants as form
use Rattle.web_body.specs.HeadTests.{content_length, content_encoding, declared_of, is_coded_of}
use Rattle.web_decoders.specs.declared.form_head.FormHead.{FormHead}

abbrev pub is_readable : Result (Unit {0}) ContentTypeError → Bool
is_readable (Ok u) = true
is_readable (Err e) = false

-- the content type is that of a form, and its charset is UTF-8
abbrev pub is_form_of : Entries FieldValue → Bool
is_form_of headers =
    str_eq_ignore_ascii_case (content_type_of headers) (codes "application/x-www-form-urlencoded")
    && is_readable (encoding_of headers)

abbrev pub form_head : Entries FieldValue → FormHead
form_head headers = record {
  is_form = is_form_of headers;
  declared = declared_of (get headers content_length);
  is_coded = is_coded_of (get headers content_encoding);
}

abbrev pub is_readable_length : Declared → Bool
is_readable_length Nothing = true
is_readable_length Unreadable = false
is_readable_length (Length n) = true

-- whether the payload is taken
abbrev pub takes_form : FormHead → Bool
takes_form h = h.is_form && is_readable_length h.declared

abbrev pub form_coding_refusal : Bool → Option UrlencodedError
form_coding_refusal is_coded =
    if is_coded then Some (form.Payload UnsupportedEncoding) else None

abbrev pub form_length_refusal : Declared → Bool → ℕ → Option UrlencodedError
form_length_refusal Unreadable is_coded limit = Some form.UnknownLength
form_length_refusal Nothing is_coded limit = form_coding_refusal is_coded
form_length_refusal (Length n) is_coded limit =
    if nat_lt limit n then Some (form.Overflow n limit) else form_coding_refusal is_coded

-- the first test that applies: of the content type, of the length, of the length under the limit,
-- of the coding
abbrev pub form_refusal : FormHead → ℕ → Option UrlencodedError
form_refusal h limit =
    if h.is_form then form_length_refusal h.declared h.is_coded limit else Some form.ContentType
