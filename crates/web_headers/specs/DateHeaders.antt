-- Headers of one date (RFC 9110, section 5.6.7), in one of three formats, with nothing around it.
use Rattle.std.specs.Prelude.{ℕ, List, Option, None, Some}
use Rattle.httpdate.specs.declared.date.HttpDate.{HttpDate}
use Rattle.httpdate.specs.Date.{IsDateText}
use Rattle.web_texts.specs.HeaderTexts.{first_text_of}

-- no date has this text
abbrev pub HasNoDate : List ℕ → Type 0
HasNoDate text = (d : HttpDate) → IsDateText text d → ⊥

abbrev pub SaysDate : {T : Type 0} → (T → HttpDate) → Option (List ℕ) → Option T → Type 0
SaysDate date None None = Unit {0}
SaysDate date None (Some x) = ⊥
SaysDate date (Some text) None = HasNoDate text
SaysDate date (Some text) (Some x) = IsDateText text (date x)

-- The first value is the text of the date.
abbrev pub ValuesSayDate : {T : Type 0} → (T → HttpDate) → List (List ℕ) → Option T → Type 0
ValuesSayDate date values said = SaysDate date (first_text_of values) said
