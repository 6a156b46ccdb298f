-- If-Range (RFC 9110, section 13.1.5): a tag, or else a date, with nothing around it.
use Rattle.std.specs.Prelude.{◌≡◌, ℕ, List, Option, None, Some, ⊤}
use Rattle.httpdate.specs.Date.{IsDateText, date_text}
use Rattle.web_texts.specs.HeaderTexts.{first_text_of}
use Rattle.web_headers.specs.DateHeaders.{HasNoDate}
use Rattle.web_entities.specs.EntityTags.{tag_of, tag_text}
use Rattle.web_entities.specs.declared.if_range.IfRange.{IfRange}
use Rattle.web_entities.specs.declared.if_range.IfRange.TheVariants as if_range

-- what a text is read as
abbrev pub TextSays : List ℕ → Option IfRange → Type 0
TextSays text None = (tag_of text ≡ None) × HasNoDate text
TextSays text (Some (if_range.EntityTag tag)) = tag_of text ≡ Some tag
TextSays text (Some (if_range.Date date)) = (tag_of text ≡ None) × IsDateText text date

abbrev pub FirstTextSays : Option (List ℕ) → Option IfRange → Type 0
FirstTextSays None said = said ≡ None
FirstTextSays (Some text) said = TextSays text said

-- The first value counts.
abbrev pub IfRangeSays : List (List ℕ) → Option IfRange → Type 0
IfRangeSays values said = FirstTextSays (first_text_of values) said

-- a date, in which no text is kept
abbrev pub TakesNoMemory : IfRange → Type 0
TakesNoMemory (if_range.EntityTag tag) = ⊥
TakesNoMemory (if_range.Date date) = ⊤

abbrev pub if_range_text : IfRange → List ℕ
if_range_text (if_range.EntityTag tag) = tag_text tag
if_range_text (if_range.Date date) = date_text date
