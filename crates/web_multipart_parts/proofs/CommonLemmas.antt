-- How many bytes of a text bytes begin with.
use Rattle.std.proofs.Common.{◌≡◌, ℕ, suc, ◌<◌, ◌≤◌, Bool, true, false, cond, eqb, List, [], ◌∷◌, ◌++◌, length, refl, sym, ap, ◌∙◌, arith, ⊎_elim}
use Rattle.std.specs.Prelude.{◌&&◌, nat_eq}
use Rattle.std.specs.List.{starts_with}
use Rattle.std.proofs.lemmas.Bool.{cases_Bool, eqb-true, eq-eqb, ne_eqb, false≢true}
use Rattle.web_multipart_parts.specs.Parts.{common_len}

-- ---- bounds, one byte further

step_le : (t : Bool) (n m : ℕ) → n ≤ m → cond t (suc n) 0 ≤ suc m
step_le true n m h = omega (arith, h)
step_le false n m h = omega arith

pub common_le_text : (text bytes : List ℕ) → common_len text bytes ≤ length text
common_le_text [] bytes = omega arith
common_le_text (t ∷ text) [] = omega arith
common_le_text (t ∷ text) (b ∷ bytes) = step_le (eqb t b) (common_len text bytes) (length text) (common_le_text text bytes)

pub common_le_bytes : (text bytes : List ℕ) → common_len text bytes ≤ length bytes
common_le_bytes [] bytes = omega arith
common_le_bytes (t ∷ text) [] = omega arith
common_le_bytes (t ∷ text) (b ∷ bytes) = step_le (eqb t b) (common_len text bytes) (length bytes) (common_le_bytes text bytes)

-- ---- more bytes

whole_step : (t : Bool) (n m l : ℕ) → (n ≡ l → m ≡ l) → cond t (suc n) 0 ≡ suc l → cond t (suc m) 0 ≡ suc l
whole_step true n m l h is = ap suc (h (omega (arith, is)))
whole_step false n m l h is = absurd (omega (arith, is))

pub common_whole : (text bytes more : List ℕ) → common_len text bytes ≡ length text → common_len text (bytes ++ more) ≡ length text
common_whole [] bytes more is = refl
common_whole (t ∷ text) [] more is = absurd (omega (arith, is))
common_whole (t ∷ text) (b ∷ bytes) more is =
    whole_step (eqb t b) (common_len text bytes) (common_len text (bytes ++ more)) (length text) (common_whole text bytes more) is

wrong_step : (t : Bool) (n m k l : ℕ) → (n < k → n < l → m ≡ n) → cond t (suc n) 0 < suc k → cond t (suc n) 0 < suc l → cond t (suc m) 0 ≡ cond t (suc n) 0
wrong_step true n m k l h below short = ap suc (h (omega (arith, below)) (omega (arith, short)))
wrong_step false n m k l h below short = refl

pub common_wrong : (text bytes more : List ℕ) → common_len text bytes < length bytes → common_len text bytes < length text → common_len text (bytes ++ more) ≡ common_len text bytes
common_wrong [] bytes more below short = refl
common_wrong (t ∷ text) [] more below short = absurd (omega (arith, below))
common_wrong (t ∷ text) (b ∷ bytes) more below short =
    wrong_step (eqb t b) (common_len text bytes) (common_len text (bytes ++ more)) (length bytes) (length text) (common_wrong text bytes more) below short

part_step : (t : Bool) (n m l : ℕ) → (n ≡ l → l ≤ m) → cond t (suc n) 0 ≡ suc l → suc l ≤ cond t (suc m) 0
part_step true n m l h is = let up = h (omega (arith, is)) in omega (arith, up)
part_step false n m l h is = absurd (omega (arith, is))

pub common_part : (text bytes more : List ℕ) → common_len text bytes ≡ length bytes → length bytes ≤ common_len text (bytes ++ more)
common_part text [] more is = omega arith
common_part [] (b ∷ bytes) more is = absurd (omega (arith, is))
common_part (t ∷ text) (b ∷ bytes) more is =
    part_step (eqb t b) (common_len text bytes) (common_len text (bytes ++ more)) (length bytes) (common_part text bytes more) is

-- ---- the order of the two does not matter

eqb_sym : (a b : ℕ) → eqb a b ≡ eqb b a
eqb_sym a b = ⊎_elim (λ e. e ∙ sym (eq-eqb b a (sym (eqb-true a b e)))) (λ e. e ∙ sym (ne_eqb b a (λ same. false≢true (sym e ∙ eq-eqb a b (sym same))))) (cases_Bool (eqb a b))

pub common_sym : (text bytes : List ℕ) → common_len text bytes ≡ common_len bytes text
common_sym [] [] = refl
common_sym [] (b ∷ bytes) = refl
common_sym (t ∷ text) [] = refl
common_sym (t ∷ text) (b ∷ bytes) = ap (λ c. cond c (suc (common_len text bytes)) 0) (eqb_sym t b) ∙ ap (λ n. cond (eqb b t) (suc n) 0) (common_sym text bytes)

-- ---- a test of the front

tell_step : (t r : Bool) (n l : ℕ) → (r ≡ true → n ≡ l) → (t && r) ≡ true → cond t (suc n) 0 ≡ suc l
tell_step true r n l h is = ap suc (h is)
tell_step false r n l h is = absurd (false≢true is)

pub starts : (text bytes : List ℕ) → starts_with nat_eq bytes text ≡ true → common_len text bytes ≡ length text
starts [] bytes is = refl
starts (t ∷ text) [] is = absurd (false≢true is)
starts (t ∷ text) (b ∷ bytes) is = tell_step (eqb t b) (starts_with nat_eq bytes text) (common_len text bytes) (length text) (starts text bytes) is

fail_step : (t r : Bool) (n l : ℕ) → (r ≡ false → n < l) → (t && r) ≡ false → cond t (suc n) 0 < suc l
fail_step true r n l h is = let low = h is in omega (arith, low)
fail_step false r n l h is = omega arith

pub starts_not : (text bytes : List ℕ) → starts_with nat_eq bytes text ≡ false → common_len text bytes < length text
starts_not [] bytes is = absurd (false≢true (sym is))
starts_not (t ∷ text) [] is = omega arith
starts_not (t ∷ text) (b ∷ bytes) is = fail_step (eqb t b) (starts_with nat_eq bytes text) (common_len text bytes) (length text) (starts_not text bytes) is
