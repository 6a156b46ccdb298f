-- Values of headers, and texts that may stand in one.
use Rattle.std.proofs.Common.{◌≡◌, ◌&&◌, ℕ, Bool, true, false, List, Option, None, Some, refl, sym, ap, subst, ◌∙◌}
use Rattle.std.specs.Option.{option_zip}
use Rattle.std.specs.Prelude.{if◌then◌else◌, IfSome}
use Rattle.std.proofs.lemmas.Option.{none-some, same_Some}
use Rattle.http_header.specs.FieldValue.{FieldValue, IsFieldValue, plain_value}
use Rattle.httpdate.specs.Date.{date_text}
use Rattle.httpdate.specs.declared.date.HttpDate.{HttpDate}
use Rattle.web_reply.specs.HeaderSteps.{is_field_value}
use Rattle.web_reply.proofs.HeaderStepLemmas.{is_true, is_false, value_decides}
use Rattle.web_texts.specs.MediaTypeTexts.{media_type_text}
use Rattle.web_entities.specs.EntityTags.{tag_text}
use Rattle.web_docs.specs.Documents.{date_value, field_value_of, has_field_values, media_type_value, tag_value, text_values}
use Rattle.web_docs.specs.declared.document.Document.{Document}
use Rattle.web_docs.proofs.DateTextLemmas.{date_stands}

pub given_value : (output : Option (List ℕ)) (v : FieldValue) → IsFieldValue v.bytes → IfSome output (λ text. v ≡ plain_value text) → IfSome output (λ text. Some v ≡ field_value_of text)
given_value None v fits gives = gives
given_value (Some text) v fits gives =
    ap Some gives ∙ sym (ap (λ b. if b then Some (plain_value text) else None) (is_true _ (value_decides text) (subst (λ (w : FieldValue). IsFieldValue w.bytes) gives fits)))

pub refused_value : (output : Option (List ℕ)) → IfSome output (λ text. IsFieldValue text → ⊥) → IfSome output (λ text. None ≡ field_value_of text)
refused_value None refused = refused
refused_value (Some text) refused = sym (ap (λ b. if b then Some (plain_value text) else None) (is_false _ (value_decides text) refused))

-- ---- what a value that was given says

module _ (x y : FieldValue) where
  pub picked : (b : Bool) (v : FieldValue) → Some v ≡ (if b then Some x else None) → v ≡ x
  picked true v some = same_Some _ _ some
  picked false v some = absurd (none-some _ (sym some))

  zipped : (a b : Bool) (v : FieldValue × FieldValue) → Some v ≡ option_zip (if a then Some x else None) (if b then Some y else None) → ((a && b) ≡ true) × (v ≡ (x, y))
  zipped true true v some = (refl, same_Some _ _ some)
  zipped true false v some = absurd (none-some _ (sym some))
  zipped false b v some = absurd (none-some _ (sym some))

  unzipped : (a b : Bool) → None ≡ option_zip (if a then Some x else None) (if b then Some y else None) → (a && b) ≡ false
  unzipped true true none = absurd (none-some _ none)
  unzipped true false none = refl
  unzipped false b none = refl

pub date_valued : (d : HttpDate) (v : FieldValue) → Some v ≡ field_value_of (date_text d) → v ≡ date_value d
date_valued d v some = picked (date_value d) (date_value d) (is_field_value (date_text d)) v some

pub date_unvalued : (d : HttpDate) → None ≡ field_value_of (date_text d) → ⊥
date_unvalued d none = none-some _ (none ∙ ap (λ b. if b then Some (date_value d) else None) (date_stands d))

module _ (d : Document) where
  pub values_given : (v : FieldValue × FieldValue) → Some v ≡ text_values d → (has_field_values d ≡ true) × (v ≡ (media_type_value d, tag_value d))
  values_given v some = zipped (media_type_value d) (tag_value d) (is_field_value (media_type_text d.media_type)) (is_field_value (tag_text d.tag)) v some

  pub values_refused : None ≡ text_values d → has_field_values d ≡ false
  values_refused none = unzipped (media_type_value d) (tag_value d) (is_field_value (media_type_text d.media_type)) (is_field_value (tag_text d.tag)) none
