-- The values of If-Range say one thing: a tag, a date, or neither.
use Rattle.std.proofs.Common.{◌≡◌, ◌⊎◌, ℕ, List, refl, sym, ap, ◌∙◌, inl, inr}
use Rattle.std.proofs.lemmas.Option.{none-some, same_Some}
use Rattle.std.specs.Prelude.{Option, None, Some}
use Rattle.httpdate.specs.Date.{IsDateText}
use Rattle.httpdate.specs.declared.date.HttpDate.{HttpDate}
use Rattle.web_headers.specs.DateHeaders.{HasNoDate}
use Rattle.web_headers.specs.HeaderLaws.{SaysOneThing, SaysOnly}
use Rattle.web_texts.specs.HeaderTexts.{first_text_of}
use Rattle.web_headers.proofs.DateLemmas.{date_or_none, one_date}
use Rattle.web_entities.specs.EntityTags.{Tag, tag_of}
use Rattle.web_entities.specs.IfRanges.{FirstTextSays, IfRangeSays, TextSays}
use Rattle.web_entities.specs.declared.if_range.IfRange.{IfRange}
use Rattle.web_entities.specs.declared.if_range.IfRange.TheVariants as if_range

module _ (text : List ℕ) where
  only_tag : (tag : Tag) → tag_of text ≡ Some tag → (other : Option IfRange) → TextSays text other → other ≡ Some (if_range.EntityTag tag)
  only_tag tag is None h = absurd (none-some _ (sym h.0 ∙ is))
  only_tag tag is (Some (if_range.EntityTag t)) h = ap (λ x. Some (if_range.EntityTag x)) (same_Some _ _ (sym h ∙ is))
  only_tag tag is (Some (if_range.Date d)) h = absurd (none-some _ (sym h.0 ∙ is))

  only_date : tag_of text ≡ None → (date : HttpDate) → IsDateText text date → (other : Option IfRange) → TextSays text other → other ≡ Some (if_range.Date date)
  only_date no_tag date shown None h = absurd (h.1 date shown)
  only_date no_tag date shown (Some (if_range.EntityTag t)) h = absurd (none-some _ (sym no_tag ∙ h))
  only_date no_tag date shown (Some (if_range.Date d)) h = ap (λ x. Some (if_range.Date x)) (one_date text d date h.1 shown)

  only_none : tag_of text ≡ None → HasNoDate text → (other : Option IfRange) → TextSays text other → other ≡ None
  only_none no_tag none None h = refl
  only_none no_tag none (Some (if_range.EntityTag t)) h = absurd (none-some _ (sym no_tag ∙ h))
  only_none no_tag none (Some (if_range.Date d)) h = absurd (none d h.1)

  of_date : tag_of text ≡ None → ((d : HttpDate) × IsDateText text d) ⊎ HasNoDate text → (said : Option IfRange) × SaysOnly (TextSays text) said
  of_date no_tag (inl shown) = (Some (if_range.Date shown.0), ((no_tag, shown.1), only_date no_tag shown.0 shown.1))
  of_date no_tag (inr none) = (None, ((no_tag, none), only_none no_tag none))

  of_tag : (tag : Option Tag) → tag_of text ≡ tag → (said : Option IfRange) × SaysOnly (TextSays text) said
  of_tag (Some tag) is = (Some (if_range.EntityTag tag), (is, only_tag tag is))
  of_tag None no_tag = of_date no_tag (date_or_none text)

of_first : (first : Option (List ℕ)) → (said : Option IfRange) × SaysOnly (FirstTextSays first) said
of_first None = (None, (refl, λ other h. h))
of_first (Some text) = of_tag text (tag_of text) refl

pub if_range_says_one : SaysOneThing IfRangeSays
if_range_says_one values = of_first (first_text_of values)
