-- A value's bytes, read as UTF-8.
use Rattle.std.proofs.Common.{◌≡◌, ℕ, Bool, true, false, List, [], ◌∷◌, Some, None, refl, ap}
use Rattle.std.specs.Prelude.{slice_get}
use Rattle.std.specs.Str.{IsUtf8, is_utf8}
use Rattle.std.proofs.lemmas.Str.{IsUtf8-from_is_utf8, is_utf8-from_IsUtf8}
use Rattle.http_header.specs.FieldValue.{FieldValue}
use Rattle.web_texts.specs.HeaderTexts.{value_bytes}
use Rattle.web_entities.specs.Dispositions.{disposition_of, raw_disposition_of, first_disposition}

by_cases : (bytes : List ℕ) (b : Bool) → is_utf8 bytes ≡ b → (IsUtf8 bytes → ⊥) → is_utf8 bytes ≡ false
by_cases bytes true e unfit = absurd (unfit (IsUtf8-from_is_utf8 bytes e))
by_cases bytes false e unfit = e

pub raw_text : (bytes text : List ℕ) → text ≡ bytes → IsUtf8 bytes → raw_disposition_of bytes ≡ disposition_of text
raw_text bytes text is fits = rw (is, is_utf8-from_IsUtf8 bytes fits) refl

pub raw_none : (bytes : List ℕ) → (IsUtf8 bytes → ⊥) → raw_disposition_of bytes ≡ None
raw_none bytes unfit = rw (by_cases bytes (is_utf8 bytes) refl unfit) refl

-- the first value

pub first_is : (values : List FieldValue) (value : FieldValue) → Some value ≡ slice_get values 0 → first_disposition (value_bytes values) ≡ raw_disposition_of value.bytes
first_is [] value e = absurd (cc)
first_is (v ∷ more) value e = let same : v ≡ value = cc in ap (λ it. raw_disposition_of it.bytes) same

pub first_is_none : (values : List FieldValue) → None ≡ slice_get values 0 → first_disposition (value_bytes values) ≡ None
first_is_none [] e = refl
first_is_none (v ∷ more) e = absurd (cc)
