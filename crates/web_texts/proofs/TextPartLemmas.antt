-- The parts of a text that is split at a byte.
use Rattle.std.proofs.Common.{◌≡◌, ◌==◌, ℕ, ◌+◌, ◌<◌, Bool, true, false, not, ◌||◌, List, [], ◌∷◌, cond, length, Option, None, Some, refl, ap, arith}
use Rattle.std.specs.List.{after_first, before_first, list_any, position_or_len, slice_split}
use Rattle.std.specs.Option.{option_map_or}
use Rattle.std.proofs.lemmas.List.Splits.{slice_split_first}
use Rattle.web_texts.specs.Cut.{split_once}
use Rattle.web_texts.proofs.SplitLemmas.{split_whole}

inside_step : {X : Type 0} (p : X → Bool) (x : X) (xs : List X) (b : Bool) → (b || list_any p xs) ≡ true → (list_any p xs ≡ true → position_or_len p xs < length xs)
    → cond (not b) (1 + position_or_len p xs) 0 < length (x ∷ xs)
inside_step p x xs true there next = omega arith
inside_step p x xs false there next = omega (arith, next there)

-- the first element that passes stands inside
inside : {X : Type 0} (p : X → Bool) (xs : List X) → list_any p xs ≡ true → position_or_len p xs < length xs
inside p [] there = absurd (cc)
inside p (x ∷ xs) there = inside_step p x xs (p x) there (inside p xs)

outside_step : {X : Type 0} (p : X → Bool) (x : X) (xs : List X) (b : Bool) → (b || list_any p xs) ≡ false → (list_any p xs ≡ false → position_or_len p xs ≡ length xs)
    → cond (not b) (1 + position_or_len p xs) 0 ≡ length (x ∷ xs)
outside_step p x xs true away next = absurd (cc)
outside_step p x xs false away next = omega (arith, next away)

outside : {X : Type 0} (p : X → Bool) (xs : List X) → list_any p xs ≡ false → position_or_len p xs ≡ length xs
outside p [] away = refl
outside p (x ∷ xs) away = outside_step p x xs (p x) away (outside p xs)

abbrev first_half : Option (List ℕ × List ℕ) → List ℕ
first_half halves = option_map_or (λ h. h.0) halves []

abbrev second_half : Option (List ℕ × List ℕ) → List ℕ
second_half halves = option_map_or (λ h. h.1) halves []

cut_by : (byte : ℕ) (text part rest : List ℕ) (b : Bool) → list_any (λ b. b == byte) text ≡ b → ◌≡◌ {A = Option (List ℕ × List ℕ)} (Some (part, rest)) (cond b (Some (before_first (λ b. b == byte) text, after_first (λ b. b == byte) text)) None)
    → slice_split (λ b. b == byte) text ≡ part ∷ slice_split (λ b. b == byte) rest
cut_by byte text part rest true has is =
    let front : part ≡ before_first (λ b. b == byte) text = ap first_half is in
    let back : rest ≡ after_first (λ b. b == byte) text = ap second_half is in
    rw (front, back) (slice_split_first (λ b. b == byte) text 0 (inside (λ b. b == byte) text has))
cut_by byte text part rest false has is = absurd (cc)

-- a text with the byte
pub part_cut : (byte : ℕ) (text part rest : List ℕ) → Some (part, rest) ≡ split_once byte text → slice_split (λ b. b == byte) text ≡ part ∷ slice_split (λ b. b == byte) rest
part_cut byte text part rest is = cut_by byte text part rest (list_any (λ b. b == byte) text) refl is

whole_by : (byte : ℕ) (text : List ℕ) (b : Bool) → list_any (λ b. b == byte) text ≡ b → ◌≡◌ {A = Option (List ℕ × List ℕ)} None (cond b (Some (before_first (λ b. b == byte) text, after_first (λ b. b == byte) text)) None)
    → slice_split (λ b. b == byte) text ≡ text ∷ []
whole_by byte text true has is = absurd (cc)
whole_by byte text false has is = split_whole (λ (b : ℕ). b == byte) text (outside (λ b. b == byte) text has)

-- a text without one
pub part_whole : (byte : ℕ) (text : List ℕ) → None ≡ split_once byte text → slice_split (λ b. b == byte) text ≡ text ∷ []
part_whole byte text is = whole_by byte text (list_any (λ b. b == byte) text) refl is
