-- Headers of values that are those of a document.
use Rattle.std.proofs.Common.{◌≡◌, [], ◌∷◌, Option, None, Some, ap, refl, ◌∙◌}
use Rattle.std.specs.Prelude.{codes}
use Rattle.http_header.specs.FieldValue.{FieldValue, plain_value}
use Rattle.http_header.specs.HeaderMap.{insert}
use Rattle.httpdate.specs.declared.date.HttpDate.{HttpDate}
use Rattle.std.specs.Option.{option_map}
use Rattle.web_entities.specs.EntityTags.{Tag, tag_text}
use Rattle.web_docs.specs.Conditions.{Headers}
use Rattle.web_docs.specs.DescribedReplies.{part_headers}
use Rattle.web_docs.specs.Descriptions.{Description, description, last_modified, validator_headers, whole_headers, with_last_modified}
use Rattle.web_docs.specs.Documents.{date_value, media_type_value, tag_value}
use Rattle.web_docs.specs.declared.document.Document.{Document}

module _ (d : Document) (media_type tag modified : FieldValue) (kind : media_type ≡ media_type_value d) (version : tag ≡ tag_value d) (date : modified ≡ date_value d.modified) where
  abbrev validators_of : FieldValue → FieldValue → Headers
  validators_of t m = (codes "etag", t ∷ []) ∷ (codes "last-modified", m ∷ []) ∷ []

  abbrev whole_of : FieldValue → FieldValue → FieldValue → Headers
  whole_of k t m = (codes "accept-ranges", plain_value (codes "bytes") ∷ []) ∷ (codes "content-type", k ∷ []) ∷ validators_of t m

  pub validators_are : (codes "etag", tag ∷ []) ∷ (codes "last-modified", modified ∷ []) ∷ [] ≡ validator_headers (description d)
  validators_are = ap (λ t. validators_of t modified) version ∙ ap (λ m. validators_of (tag_value d) m) date

  pub whole_are : (codes "accept-ranges", plain_value (codes "bytes") ∷ []) ∷ (codes "content-type", media_type ∷ []) ∷ (codes "etag", tag ∷ []) ∷ (codes "last-modified", modified ∷ []) ∷ [] ≡ whole_headers (description d)
  whole_are =
      ap (λ k. whole_of k tag modified) kind
      ∙ ap (λ t. whole_of (media_type_value d) t modified) version
      ∙ ap (λ m. whole_of (media_type_value d) (tag_value d) m) date

-- Last-Modified after ETag, and after the headers before it
pub validators_dated : (tag : FieldValue) (date : Option FieldValue) → with_last_modified ((codes "etag", tag ∷ []) ∷ []) date ≡ (codes "etag", tag ∷ []) ∷ last_modified date
validators_dated tag None = refl
validators_dated tag (Some date) = refl

pub whole_dated : (kind tag : FieldValue) (date : Option FieldValue) → with_last_modified ((codes "accept-ranges", plain_value (codes "bytes") ∷ []) ∷ (codes "content-type", kind ∷ []) ∷ (codes "etag", tag ∷ []) ∷ []) date ≡ (codes "accept-ranges", plain_value (codes "bytes") ∷ []) ∷ (codes "content-type", kind ∷ []) ∷ (codes "etag", tag ∷ []) ∷ last_modified date
whole_dated kind tag None = refl
whole_dated kind tag (Some date) = refl

module _ (kind : FieldValue) (tag : Tag) (value : FieldValue) where
  part_by_date : (date : Option HttpDate) → insert (whole_headers (record { media_type = kind; tag = tag; modified = date })) (codes "content-range") value ≡ part_headers value (record { media_type = kind; tag = tag; modified = date })
  part_by_date None = refl
  part_by_date (Some date) = refl

  replaced_by_date : (old : FieldValue) (date : Option HttpDate) → insert (part_headers old (record { media_type = kind; tag = tag; modified = date })) (codes "content-range") value ≡ part_headers value (record { media_type = kind; tag = tag; modified = date })
  replaced_by_date old None = refl
  replaced_by_date old (Some date) = refl

-- a value of Content-Range after the headers of content
pub part_is : (d : Description) (value : FieldValue) → insert (whole_headers d) (codes "content-range") value ≡ part_headers value d
part_is d value = part_by_date d.media_type d.tag value d.modified

-- and in place of another
pub part_replaced : (d : Description) (old value : FieldValue) → insert (part_headers old d) (codes "content-range") value ≡ part_headers value d
part_replaced d old value = replaced_by_date d.media_type d.tag value old d.modified

-- ---- the headers of a description, of its printed values

module _ (d : Description) (tag : FieldValue) (date : Option FieldValue) (version : tag ≡ plain_value (tag_text d.tag)) (change : date ≡ option_map date_value d.modified) where
  abbrev dated_validators : FieldValue → Option FieldValue → Headers
  dated_validators t v = (codes "etag", t ∷ []) ∷ last_modified v

  abbrev dated_whole : FieldValue → Option FieldValue → Headers
  dated_whole t v = (codes "accept-ranges", plain_value (codes "bytes") ∷ []) ∷ (codes "content-type", d.media_type ∷ []) ∷ dated_validators t v

  pub described_validators : with_last_modified ((codes "etag", tag ∷ []) ∷ []) date ≡ validator_headers d
  described_validators =
      validators_dated tag date
      ∙ ap (λ t. dated_validators t date) version
      ∙ ap (λ v. dated_validators (plain_value (tag_text d.tag)) v) change

  pub described_whole : with_last_modified ((codes "accept-ranges", plain_value (codes "bytes") ∷ []) ∷ (codes "content-type", d.media_type ∷ []) ∷ (codes "etag", tag ∷ []) ∷ []) date ≡ whole_headers d
  described_whole =
      whole_dated d.media_type tag date
      ∙ ap (λ t. dated_whole t date) version
      ∙ ap (λ v. dated_whole (plain_value (tag_text d.tag)) v) change
