-- Values that are header text.
use Rattle.std.proofs.Common.{◌≡◌, ℕ, Bool, true, false, List, [], ◌∷◌, None, Some, refl}
use Rattle.std.specs.Prelude.{slice_get}
use Rattle.std.specs.List.{list_all}
use Rattle.std.proofs.lemmas.List.Sums.{AllPass-from_list_all, list_all-from_AllPass}
use Rattle.http_header.specs.Token.{is_visible_or_blank}
use Rattle.http_header.specs.FieldValue.{FieldValue, IsVisibleAscii}
use Rattle.web_texts.specs.HeaderTexts.{first_text_of, header_text_of, value_bytes}

by_cases : (bytes : List ℕ) (b : Bool) → list_all is_visible_or_blank bytes ≡ b → (IsVisibleAscii bytes → ⊥) → list_all is_visible_or_blank bytes ≡ false
by_cases bytes true e unfit = absurd (unfit (AllPass-from_list_all is_visible_or_blank bytes e))
by_cases bytes false e unfit = e

pub is_text : (bytes : List ℕ) → IsVisibleAscii bytes → header_text_of bytes ≡ Some bytes
is_text bytes fits = rw (list_all-from_AllPass is_visible_or_blank bytes fits) refl

pub no_text : (bytes : List ℕ) → (IsVisibleAscii bytes → ⊥) → header_text_of bytes ≡ None
no_text bytes unfit = rw (by_cases bytes (list_all is_visible_or_blank bytes) refl unfit) refl

pub first_is : (values : List FieldValue) (value : FieldValue) → Some value ≡ slice_get values 0 → first_text_of (value_bytes values) ≡ header_text_of value.bytes
first_is [] value e = absurd (cc)
first_is (v ∷ more) value e = let same : v ≡ value = cc in rw same refl

pub first_is_none : (values : List FieldValue) → None ≡ slice_get values 0 → first_text_of (value_bytes values) ≡ None
first_is_none [] e = refl
first_is_none (v ∷ more) e = absurd (cc)
