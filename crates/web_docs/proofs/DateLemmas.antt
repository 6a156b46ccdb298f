-- The second that a text shows, by the relation of dates.
use Rattle.std.proofs.Common.{◌≡◌, ℕ, Bool, true, false, List, [], ◌∷◌, Option, None, Some, refl, ap, sym, ◌∙◌}
use Rattle.std.proofs.lemmas.Bool.{cond-true, cond-false}
use Rattle.std.specs.Prelude.{slice_get}
use Rattle.std.specs.Option.{option_and_then, option_map}
use Rattle.http_header.specs.FieldValue.{FieldValue}
use Rattle.httpdate.specs.declared.parts.Parts.{Parts}
use Rattle.httpdate.specs.declared.date.HttpDate.{HttpDate}
use Rattle.httpdate.specs.Date.{IsDateText, parse_secs, unix_secs, valid_secs}
use Rattle.httpdate.specs.Reader.{parse}
use Rattle.httpdate.specs.Valid.{IsValid, is_valid}
use Rattle.httpdate.proofs.FormatLemmas.{parse_complete, parse_sound}
use Rattle.httpdate.proofs.ValidLemmas.{is_valid_complete, is_valid_sound}
use Rattle.web_texts.specs.HeaderTexts.{header_text, value_bytes}
use Rattle.web_headers.specs.DateHeaders.{HasNoDate, SaysDate}
use Rattle.web_entities.specs.EntityTags.{Tag, equals}
use Rattle.web_entities.specs.declared.entity.Comparison.TheVariants.{Strong}
use Rattle.web_docs.specs.Conditions.{is_last_change, names_version, range_condition, text_names_version}

valid : (d : HttpDate) → IsValid d.parts
valid d = (d.civil, d.time, d.right_day)

pub date_secs : (text : List ℕ) (d : HttpDate) → IsDateText text d → parse_secs text ≡ Some (unix_secs d)
date_secs text d shown =
    ap (option_and_then valid_secs) (parse_complete text d.parts (valid d) shown)
    ∙ cond-true (is_valid d.parts) _ _ (is_valid_complete d.parts (valid d))

unshown : (text : List ℕ) → HasNoDate text → (p : Parts) → parse text ≡ Some p → (b : Bool) → is_valid p ≡ b → valid_secs p ≡ None
unshown text none p read true is =
    let fits = is_valid_sound p is in
    absurd (none (record { parts = p; civil = fits.0; time = fits.1; right_day = fits.2 }) (parse_sound text p read))
unshown text none p read false is = cond-false (is_valid p) _ _ is

no_secs_by : (text : List ℕ) → HasNoDate text → (r : Option Parts) → parse text ≡ r → option_and_then valid_secs r ≡ None
no_secs_by text none None read = refl
no_secs_by text none (Some p) read = unshown text none p read (is_valid p) refl

pub no_secs : (text : List ℕ) → HasNoDate text → parse_secs text ≡ None
no_secs text none = no_secs_by text none (parse text) refl

-- ---- what a header of a date says

pub secs_said : (t : Option (List ℕ)) (x : HttpDate) → SaysDate (λ d. d) t (Some x) → option_and_then parse_secs t ≡ Some (unix_secs x)
secs_said None x says = elim says [ ]
secs_said (Some text) x says = date_secs text x says

pub secs_unsaid : (t : Option (List ℕ)) → SaysDate (λ d. d) t None → option_and_then parse_secs t ≡ None
secs_unsaid None says = refl
secs_unsaid (Some text) says = no_secs text says

-- ---- If-Range

module _ (tag : Tag) (modified : Option HttpDate) where
  pub range_tag : (text : List ℕ) (said : Option Tag) (is : Bool) → Some is ≡ option_map (λ t. equals Strong t tag) said → names_version tag modified text said ≡ is
  range_tag text None is e = absurd (cc)
  range_tag text (Some named) is e = cc

  pub range_date : (text : List ℕ) (said : Option Tag) → None ≡ option_map (λ t. equals Strong t tag) said
      → names_version tag modified text said ≡ is_last_change modified text
  range_date text None e = refl
  range_date text (Some named) e = absurd (cc)

  pub range_there : (vs : List FieldValue) (first : FieldValue) → Some first ≡ slice_get vs 0 → range_condition tag modified (value_bytes vs) ≡ text_names_version tag modified (header_text first)
  range_there [] first is = absurd (cc)
  range_there (v ∷ vs) first is =
      let same : first ≡ v = cc in
      ap (λ x. text_names_version tag modified (header_text x)) (sym same)

  pub range_absent : (vs : List FieldValue) → None ≡ slice_get vs 0 → range_condition tag modified (value_bytes vs) ≡ true
  range_absent [] is = refl
  range_absent (v ∷ vs) is = absurd (cc)
