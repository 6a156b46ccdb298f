-- A required type that a head names is not refused, and its charset alone decides on a text.
use Rattle.std.proofs.Common.{◌≡◌, refl}
use Rattle.std.specs.Prelude.{None, Ok, Some}
use Rattle.std.specs.Option.{option_or}
use Rattle.http_header.specs.FieldValue.{FieldValue}
use Rattle.http_header.specs.HeaderMap.{Entries}
use Rattle.web_texts.specs.MediaTypes.{MediaType}
use Rattle.web_texts.specs.MediaTypeEquality.{media_type_eq_law}
use Rattle.web_request.specs.MessageFields.{mime_type_of, type_test}
use Rattle.web_extract.specs.BodyArguments.{charset_refusal, error_of, type_refusal}

pub required_type : (required : MediaType) (headers : Entries FieldValue) → mime_type_of headers ≡ Ok (Some required) → type_refusal (Some required) headers ≡ None
required_type required headers e = rw (e, media_type_eq_law.refl required) refl

pub required_text : (required : MediaType) (headers : Entries FieldValue) → mime_type_of headers ≡ Ok (Some required)
    → option_or (type_refusal (Some required) headers) (charset_refusal headers) ≡ error_of (type_test (Ok (Some required)))
required_text required headers e = rw (e, media_type_eq_law.refl required) refl
