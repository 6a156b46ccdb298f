-- The texts of the errors of a content type.
use Rattle.std.specs.Prelude.{ℕ, List, codes}
use Rattle.web_texts.specs.declared.errors.ContentTypeError.{ContentTypeError}
use Rattle.web_texts.specs.declared.errors.ContentTypeError.TheVariants as error

abbrev pub content_type_error_text : ContentTypeError → List ℕ
content_type_error_text error.ParseError = codes "can not parse content type"
content_type_error_text error.UnknownEncoding = codes "unknown content encoding"
