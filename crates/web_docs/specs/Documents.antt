-- The values of headers that are sent beside a document.
use Rattle.std.specs.Prelude.{◌≡◌, ℕ, ◌&&◌, Bool, true, false, List}
use Rattle.std.specs.Prelude.{Option, None, Some, Result, Ok, Err, if◌then◌else◌}
use Rattle.std.specs.Option.{option_zip}
use Rattle.http_header.specs.FieldValue.{FieldValue, plain_value}
use Rattle.httpdate.specs.Date.{date_text}
use Rattle.httpdate.specs.declared.date.HttpDate.{HttpDate}
use Rattle.web_texts.specs.MediaTypeTexts.{media_type_text}
use Rattle.web_texts.specs.declared.memory.Fail.{Fail}
use Rattle.web_texts.specs.declared.memory.Fail.TheVariants as fail
use Rattle.web_entities.specs.EntityTags.{tag_text}
use Rattle.web_reply.specs.HeaderSteps.{is_field_value}
use Rattle.web_docs.specs.declared.document.Document.{Document}
use Rattle.web_docs.specs.declared.document.StoreFault.{StoreFault}
use Rattle.web_docs.specs.declared.document.StoreFault.TheVariants as fault

abbrev pub media_type_value : Document → FieldValue
media_type_value d = plain_value (media_type_text d.media_type)

abbrev pub tag_value : Document → FieldValue
tag_value d = plain_value (tag_text d.tag)

abbrev pub date_value : HttpDate → FieldValue
date_value date = plain_value (date_text date)

-- the value of a text that may stand in a header (RFC 9110, section 5.5)
abbrev pub field_value_of : List ℕ → Option FieldValue
field_value_of text = if is_field_value text then Some (plain_value text) else None

-- the values of Content-Type and ETag, where both texts may stand in a header
abbrev pub text_values : Document → Option (FieldValue × FieldValue)
text_values d =
    option_zip (field_value_of (media_type_text d.media_type)) (field_value_of (tag_text d.tag))

-- Both of its texts may stand in a header. Its date always may.
abbrev pub has_field_values : Document → Bool
has_field_values d =
    is_field_value (media_type_text d.media_type) && is_field_value (tag_text d.tag)

-- the document as it is, or its fault
abbrev pub StoresDocument : Document → Result Document (Fail StoreFault) → Type 0
StoresDocument d (Ok stored) = (stored ≡ d) × (has_field_values d ≡ true)
StoresDocument d (Err fail.NoMemory) = Unit {0}
StoresDocument d (Err (fail.Of f)) = (f ≡ fault.Value d.path) × (has_field_values d ≡ false)
