-- A text shows one date, or none.
use mathlib.Core.HLevel.{is_prop→PathP}
use native.Mathlib.Bridge.{le_prop}
use native.Mathlib.Nat.{ℕ_set}
use Rattle.std.proofs.Common.{◌≡◌, ◌⊎◌, ℕ, Bool, true, false, List, refl, sym, ap, ◌∙◌, subst, inl, inr}
use Rattle.std.proofs.lemmas.Bool.{false≢true}
use Rattle.std.proofs.lemmas.Option.{none-some, same_Some}
use Rattle.std.specs.Prelude.{Option, None, Some}
use Rattle.httpdate.specs.Calendar.{IsCivilDate, IsTimeOfDay, days_from_civil, weekday}
use Rattle.httpdate.specs.Date.{IsDateText}
use Rattle.httpdate.specs.Reader.{parse}
use Rattle.httpdate.specs.Valid.{IsValid, is_valid}
use Rattle.httpdate.specs.declared.date.HttpDate.{HttpDate}
use Rattle.httpdate.specs.declared.parts.Parts.{Parts}
use Rattle.httpdate.proofs.FormatLemmas.{parse_complete, parse_sound}
use Rattle.httpdate.proofs.Theorems.{IsDateText_unique}
use Rattle.httpdate.proofs.ValidLemmas.{is_valid_complete, is_valid_sound}
use Rattle.web_headers.specs.DateHeaders.{HasNoDate, SaysDate, ValuesSayDate}
use Rattle.web_headers.specs.HeaderLaws.{SaysOneThing, SaysOnly, ShowsOneDate}
use Rattle.web_texts.specs.HeaderTexts.{first_text_of}

civil_prop : (p : Parts) → IsProp (IsCivilDate p.year p.mon p.day)
civil_prop p = hlevel (le_prop, ℕ_set)

time_prop : (p : Parts) → IsProp (IsTimeOfDay p.hour p.min p.sec)
time_prop p = hlevel (le_prop, ℕ_set)

-- the numbers of a date say all of it
pub same_date : (a b : HttpDate) → a.parts ≡ b.parts → a ≡ b
same_date a b same = λ i. record {
  parts = same i;
  civil = is_prop→PathP (λ j. IsCivilDate (same j).year (same j).mon (same j).day) (λ j. civil_prop (same j)) a.civil b.civil i;
  time = is_prop→PathP (λ j. IsTimeOfDay (same j).hour (same j).min (same j).sec) (λ j. time_prop (same j)) a.time b.time i;
  right_day = is_prop→PathP (λ j. (same j).wday ≡ weekday (days_from_civil (same j).year (same j).mon (same j).day)) (λ j. ℕ_set _ _) a.right_day b.right_day i;
}

pub one_date : ShowsOneDate
one_date text d e h k = same_date d e (IsDateText_unique text d e h k)

valid : (d : HttpDate) → IsValid d.parts
valid d = (d.civil, d.time, d.right_day)

-- numbers that were read are a date where they are valid
of_numbers : (text : List ℕ) (p : Parts) → parse text ≡ Some p → (is : Bool) → is_valid p ≡ is → ((d : HttpDate) × IsDateText text d) ⊎ HasNoDate text
of_numbers text p found true holds =
    let v = is_valid_sound p holds in
    inl (record { parts = p; civil = v.0; time = v.1; right_day = v.2 }, parse_sound text p found)
of_numbers text p found false fails =
    inr (λ d shown.
    let same : p ≡ d.parts = same_Some _ _ (sym found ∙ parse_complete text d.parts (valid d) shown) in
    false≢true (sym fails ∙ is_valid_complete p (subst IsValid (sym same) (valid d))))

of_reading : (text : List ℕ) (read : Option Parts) → parse text ≡ read → ((d : HttpDate) × IsDateText text d) ⊎ HasNoDate text
of_reading text None nothing = inr (λ d shown. none-some _ (sym nothing ∙ parse_complete text d.parts (valid d) shown))
of_reading text (Some p) found = of_numbers text p found (is_valid p) refl

pub date_or_none : (text : List ℕ) → ((d : HttpDate) × IsDateText text d) ⊎ HasNoDate text
date_or_none text = of_reading text (parse text) refl

-- a header of one date: make and date are inverse
module _ {T : Type 0} (date : T → HttpDate) (make : HttpDate → T) (made : (x : T) → make (date x) ≡ x) (of_made : (d : HttpDate) → date (make d) ≡ d) where
  only_this : (text : List ℕ) (d : HttpDate) → IsDateText text d → (other : Option T) → SaysDate date (Some text) other → other ≡ Some (make d)
  only_this text d shown None none = absurd (none d shown)
  only_this text d shown (Some x) h = ap Some (sym (made x) ∙ ap make (one_date text (date x) d h shown))

  only_none : (text : List ℕ) → HasNoDate text → (other : Option T) → SaysDate date (Some text) other → other ≡ None
  only_none text none None h = refl
  only_none text none (Some x) h = absurd (none (date x) h)

  of_text : (text : List ℕ) → ((d : HttpDate) × IsDateText text d) ⊎ HasNoDate text → (said : Option T) × SaysOnly (SaysDate date (Some text)) said
  of_text text (inl shown) =
      let same = of_made shown.0 in
      (Some (make shown.0), (subst (IsDateText text) (sym same) shown.1, only_this text shown.0 shown.1))
  of_text text (inr none) = (None, (none, only_none text none))

  without : (other : Option T) → SaysDate date None other → other ≡ None
  without None h = refl
  without (Some x) h = absurd h

  of_first : (first : Option (List ℕ)) → (said : Option T) × SaysOnly (SaysDate date first) said
  of_first None = (None, (tt, without))
  of_first (Some text) = of_text text (date_or_none text)

  pub says_one : SaysOneThing (ValuesSayDate date)
  says_one values = of_first (first_text_of values)
