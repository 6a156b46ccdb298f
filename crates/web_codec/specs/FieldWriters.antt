-- What texts are written for the fields of forms.
use Rattle.std.specs.Prelude.{ℕ, ℤ, List, [], ◌∷◌, ◌++◌, Bool, Option, None, Some, map}
use Rattle.std.specs.Prelude.{codes, decimal, if◌then◌else◌}
use Rattle.std.specs.Fmt.{signed_decimal}
use Rattle.web_texts.specs.Pairs.{Pair}

-- the texts that are written for a value: one, or none, or those of a list
abbrev pub FieldWriter : Type 0 → Type 0
FieldWriter T = T → List (List ℕ)

abbrev pub texts_of_text : FieldWriter (List ℕ)
texts_of_text x = x ∷ []

abbrev pub texts_of_bool : FieldWriter Bool
texts_of_bool x = (if x then codes "true" else codes "false") ∷ []

abbrev pub texts_of_unsigned : FieldWriter ℕ
texts_of_unsigned x = decimal x ∷ []

abbrev pub texts_of_signed : FieldWriter ℤ
texts_of_signed x = signed_decimal x ∷ []

abbrev pub texts_of_option : {T : Type 0} → FieldWriter T → FieldWriter (Option T)
texts_of_option texts None = []
texts_of_option texts (Some x) = texts x

abbrev pub texts_of_list : {T : Type 0} → FieldWriter T → FieldWriter (List T)
texts_of_list texts [] = []
texts_of_list texts (x ∷ xs) = texts x ++ texts_of_list texts xs

-- a name with each of these values
abbrev pub named_pairs : List ℕ → List (List ℕ) → List Pair
named_pairs name texts = map (λ t. record { name = name; value = t }) texts
