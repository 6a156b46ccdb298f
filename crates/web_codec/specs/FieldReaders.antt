-- What values are read from fields of forms, queries and paths.
use Rattle.std.specs.Prelude.{ℕ, List, [], ◌∷◌, ◌++◌, Bool, true, false, if◌then◌else◌}
use Rattle.std.specs.Prelude.{Option, None, Some, Result, Ok, Err, codes, slice_get, bytes_eq}
use Rattle.web_texts.specs.Pairs.{Pair}
use Rattle.web_codec.specs.Answers.{and_then}
use Rattle.web_codec.specs.DataReaders.{in_member, missing}
use Rattle.web_codec.specs.FormPairs.{values_of}
use Rattle.web_codec.specs.declared.faults.ReadFault.{ReadFault}

-- what is read from the text of a field
abbrev pub FieldReader : Type 0 → Type 0
FieldReader T = List ℕ → Result T ReadFault

-- what is read from pairs
abbrev pub PairsReader : Type 0 → Type 0
PairsReader T = List Pair → Result T ReadFault

abbrev pub text_field : FieldReader (List ℕ)
text_field t = Ok t

abbrev pub bool_field : FieldReader Bool
bool_field t =
    if bytes_eq t (codes "true") then Ok true
    else if bytes_eq t (codes "false") then Ok false
    else Err (record { text = codes "neither true nor false" })

abbrev pub option_field : {T : Type 0} → FieldReader T → FieldReader (Option T)
option_field read t = and_then (read t) (λ x. Ok (Some x))

abbrev pub required_field_in : {T : Type 0}
    → FieldReader T → List ℕ → Option (List ℕ) → Result T ReadFault
required_field_in read name None = Err (missing name)
required_field_in read name (Some t) = in_member name (read t)

-- the first value of a name that has to be there
abbrev pub required_field : {T : Type 0} → FieldReader T → List ℕ → PairsReader T
required_field read name pairs =
    required_field_in read name (slice_get (values_of name pairs) 0)

abbrev pub field_or_in : {T : Type 0}
    → FieldReader T → List ℕ → T → Option (List ℕ) → Result T ReadFault
field_or_in read name default None = Ok default
field_or_in read name default (Some t) = in_member name (read t)

-- the first value of a name, or a default
abbrev pub field_or : {T : Type 0} → FieldReader T → List ℕ → T → PairsReader T
field_or read name default pairs =
    field_or_in read name default (slice_get (values_of name pairs) 0)

abbrev pub fields_onto : {T : Type 0}
    → FieldReader T → List ℕ → List T → List (List ℕ) → Result (List T) ReadFault
fields_onto read name so_far [] = Ok so_far
fields_onto read name so_far (t ∷ ts) =
    and_then (in_member name (read t)) (λ x. fields_onto read name (so_far ++ x ∷ []) ts)

-- all values of a name, in order
abbrev pub all_fields : {T : Type 0} → FieldReader T → List ℕ → PairsReader (List T)
all_fields read name pairs = fields_onto read name [] (values_of name pairs)

-- the value of the only pair
abbrev pub only_field : {T : Type 0} → FieldReader T → PairsReader T
only_field read [] = Err (record { text = codes "not one value" })
only_field read (p ∷ []) = in_member p.name (read p.value)
only_field read (p ∷ q ∷ ps) = Err (record { text = codes "not one value" })

abbrev pub field_at_in : {T : Type 0} → FieldReader T → Option Pair → Result T ReadFault
field_at_in read None = Err (record { text = codes "too few values" })
field_at_in read (Some p) = in_member p.name (read p.value)

-- the value of the pair at a place
abbrev pub field_at : {T : Type 0} → FieldReader T → ℕ → PairsReader T
field_at read place pairs = field_at_in read (slice_get pairs place)

-- the values of the first pairs, as those of a path
abbrev pub two_fields : {A B : Type 0} → FieldReader A → FieldReader B → PairsReader (A × B)
two_fields a b pairs =
    and_then (field_at a 0 pairs) (λ v. and_then (field_at b 1 pairs) (λ w. Ok (v, w)))

abbrev pub three_fields : {A B C : Type 0}
    → FieldReader A → FieldReader B → FieldReader C → PairsReader (A × B × C)
three_fields a b c pairs =
    and_then (field_at a 0 pairs) (λ v.
    and_then (field_at b 1 pairs) (λ w.
    and_then (field_at c 2 pairs) (λ x. Ok (v, w, x))))

abbrev pub four_fields : {A B C D : Type 0}
    → FieldReader A → FieldReader B → FieldReader C → FieldReader D
    → PairsReader (A × B × C × D)
four_fields a b c d pairs =
    and_then (field_at a 0 pairs) (λ v.
    and_then (field_at b 1 pairs) (λ w.
    and_then (field_at c 2 pairs) (λ x.
    and_then (field_at d 3 pairs) (λ y. Ok (v, w, x, y)))))
