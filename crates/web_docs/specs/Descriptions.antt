-- What is said of content beside its bytes, and the headers that say it.
use Rattle.std.specs.Prelude.{◌≡◌, true, false, [], ◌∷◌, codes}
use Rattle.std.specs.Prelude.{Option, None, Some, Result, Ok, Err}
use Rattle.std.specs.Option.{option_map}
use Rattle.http_header.specs.FieldValue.{FieldValue, plain_value}
use Rattle.http_header.specs.HeaderMap.{insert}
use Rattle.httpdate.specs.declared.date.HttpDate.{HttpDate}
use Rattle.web_texts.specs.declared.memory.Fail.{Fail}
use Rattle.web_texts.specs.declared.memory.Fail.TheVariants as fail
use Rattle.web_entities.specs.EntityTags.{Tag, tag_text}
use Rattle.web_reply.specs.HeaderSteps.{is_field_value}
use Rattle.web_docs.specs.Conditions.{Headers}
use Rattle.web_docs.specs.Documents.{date_value, media_type_value}
use Rattle.web_docs.specs.declared.document.Document.{Document}

-- the value of Content-Type, the tag of this version, and when it was last changed, where that is
-- known
pub record Description : Type 0 where
  pub media_type : FieldValue
  pub tag : Tag
  pub modified : Option HttpDate

-- This description, where its tag may stand in a header.
abbrev pub MakesDescription : {E : Type 0} → Description → Result Description (Fail E) → Type 0
MakesDescription d (Ok made) = (made ≡ d) × (is_field_value (tag_text d.tag) ≡ true)
MakesDescription d (Err fail.NoMemory) = Unit {0}
MakesDescription d (Err (fail.Of e)) = is_field_value (tag_text d.tag) ≡ false

-- what is said of a document in memory
abbrev pub description : Document → Description
description d =
    record { media_type = media_type_value d; tag = d.tag; modified = Some d.modified }

-- Last-Modified, where there is a value of it
abbrev pub last_modified : Option FieldValue → Headers
last_modified None = []
last_modified (Some value) = (codes "last-modified", value ∷ []) ∷ []

-- the headers with Last-Modified, where there is a value of it
abbrev pub with_last_modified : Headers → Option FieldValue → Headers
with_last_modified headers None = headers
with_last_modified headers (Some value) = insert headers (codes "last-modified") value

-- the headers of a 304
abbrev pub validator_headers : Description → Headers
validator_headers d =
    (codes "etag", plain_value (tag_text d.tag) ∷ [])
    ∷ last_modified (option_map date_value d.modified)

-- the headers of the whole content
abbrev pub whole_headers : Description → Headers
whole_headers d =
    (codes "accept-ranges", plain_value (codes "bytes") ∷ [])
    ∷ (codes "content-type", d.media_type ∷ []) ∷ validator_headers d
