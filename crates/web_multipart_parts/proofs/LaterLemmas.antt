-- Parts that stand after so many bytes.
use Rattle.std.proofs.Common.{◌≡◌, ℕ, ◌+◌, ◌<◌, ◌≤◌, List, [], ◌∷◌, map, length, refl, ap, ◌∙◌, arith}
use Rattle.std.specs.List.{AllByRecursion}
use Rattle.std.proofs.lemmas.Bool.{cond-true, cond-false, cond_both, eq-eqb, ne_eqb}
use Rattle.std.specs.Prelude.{nat_eq}
use Rattle.web_multipart_parts.specs.Parts.{Closes, CutOff, Ending, Fails, Found, Parts, behind, later_ending, later_found, no_part, part_then, wrong_behind}
use Rattle.web_multipart_parts.specs.PartReading.{IsLater, IsLaterEnding, IsLaterFound}
use Rattle.web_multipart_parts.specs.declared.part.Part.{Part}
use Rattle.web_multipart_parts.specs.declared.part.PartError.{PartError}
use Rattle.web_multipart_parts.specs.declared.part.PartError.TheVariants as part_error

-- ---- one after another

parts_same : (f g : List Found) (e d : Ending) → f ≡ g → e ≡ d → ◌≡◌ {A = Parts} (record { found = f; ending = e }) (record { found = g; ending = d })
parts_same f g e d p q = ap (λ (x : List Found). let r : Parts = record { found = x; ending = e } in r) p ∙ ap (λ (x : Ending). let r : Parts = record { found = g; ending = x } in r) q

found_found : (m n : ℕ) (f : Found) → later_found m (later_found n f) ≡ later_found (m + n) f
found_found m n f = let same : m + (n + f.known) ≡ (m + n) + f.known = omega arith in ap (λ (k : ℕ). let r : Found = record { known = k; part = f.part } in r) same

all_found : (m n : ℕ) (fs : List Found) → map (later_found m) (map (later_found n) fs) ≡ map (later_found (m + n)) fs
all_found m n [] = refl
all_found m n (f ∷ fs) = ap (λ x. x ∷ map (later_found m) (map (later_found n) fs)) (found_found m n f) ∙ ap (λ xs. later_found (m + n) f ∷ xs) (all_found m n fs)

ending_ending : (m n : ℕ) (e : Ending) → later_ending m (later_ending n e) ≡ later_ending (m + n) e
ending_ending m n (Closes k) = let same : m + (n + k) ≡ (m + n) + k = omega arith in ap Closes same
ending_ending m n (Fails k error) = let same : m + (n + k) ≡ (m + n) + k = omega arith in ap (λ i. Fails i error) same
ending_ending m n CutOff = refl

pub behind_behind : (m n : ℕ) (p : Parts) → behind m (behind n p) ≡ behind (m + n) p
behind_behind m n p = parts_same (map (later_found m) (map (later_found n) p.found)) (map (later_found (m + n)) p.found) (later_ending m (later_ending n p.ending)) (later_ending (m + n) p.ending) (all_found m n p.found) (ending_ending m n p.ending)

pub behind_then : (m n : ℕ) (part : Part) (p : Parts) → behind m (part_then n part p) ≡ part_then (m + n) part p
behind_then m n part p =
    parts_same
    (record { known = m + n; part = part } ∷ map (later_found m) (map (later_found n) p.found))
    (record { known = m + n; part = part } ∷ map (later_found (m + n)) p.found)
    (later_ending m (later_ending n p.ending)) (later_ending (m + n) p.ending)
    (ap (λ (xs : List Found). let f : Found = record { known = m + n; part = part } in f ∷ xs) (all_found m n p.found)) (ending_ending m n p.ending)

found_zero : (f : Found) → later_found 0 f ≡ f
found_zero f = let same : 0 + f.known ≡ f.known = omega arith in ap (λ (k : ℕ). let r : Found = record { known = k; part = f.part } in r) same

all_zero : (fs : List Found) → map (later_found 0) fs ≡ fs
all_zero [] = refl
all_zero (f ∷ fs) = ap (λ x. x ∷ map (later_found 0) fs) (found_zero f) ∙ ap (λ xs. f ∷ xs) (all_zero fs)

ending_zero : (e : Ending) → later_ending 0 e ≡ e
ending_zero (Closes k) = let same : 0 + k ≡ k = omega arith in ap Closes same
ending_zero (Fails k error) = let same : 0 + k ≡ k = omega arith in ap (λ i. Fails i error) same
ending_zero CutOff = refl

pub behind_zero : (p : Parts) → behind 0 p ≡ p
behind_zero p = parts_same (map (later_found 0) p.found) p.found (later_ending 0 p.ending) p.ending (all_zero p.found) (ending_zero p.ending)

-- ---- after more than k bytes

pub cut_later : (k : ℕ) → IsLater k (no_part CutOff)
cut_later k = record { found = tt; ending = tt }

pub fails_later : (k n : ℕ) (error : PartError) → k < n → IsLater k (no_part (Fails n error))
fails_later k n error h = record { found = tt; ending = h }

pub closes_later : (k n : ℕ) → k < n → IsLater k (no_part (Closes n))
closes_later k n h = record { found = tt; ending = h }

all_later : (k n : ℕ) → k < n → (fs : List Found) → AllByRecursion (IsLaterFound k) (map (later_found n) fs)
all_later k n h [] = tt
all_later k n h (f ∷ fs) = (omega (arith, h), all_later k n h fs)

ending_later : (k n : ℕ) → k < n → (e : Ending) → IsLaterEnding k (later_ending n e)
ending_later k n h (Closes m) = omega (arith, h)
ending_later k n h (Fails m error) = omega (arith, h)
ending_later k n h CutOff = tt

pub behind_later : (k n : ℕ) (p : Parts) → k < n → IsLater k (behind n p)
behind_later k n p h = record { found = all_later k n h p.found; ending = ending_later k n h p.ending }

pub then_later : (k n : ℕ) (part : Part) (p : Parts) → k < n → IsLater k (part_then n part p)
then_later k n part p h = record { found = (h, all_later k n h p.found); ending = ending_later k n h p.ending }

-- ---- a wrong byte

pub wrong_shown : (n : ℕ) (bytes : List ℕ) → n < length bytes → wrong_behind n bytes ≡ no_part (Fails (n + 1) part_error.Grammar)
wrong_shown n bytes h = cond-false (nat_eq n (length bytes)) _ _ (ne_eqb n (length bytes) (λ e. absurd (omega (arith, e, h))))

pub wrong_cut : (n : ℕ) (bytes : List ℕ) → n ≡ length bytes → wrong_behind n bytes ≡ no_part CutOff
wrong_cut n bytes h = cond-true (nat_eq n (length bytes)) _ _ (eq-eqb n (length bytes) h)

pub wrong_later : (n k : ℕ) (bytes : List ℕ) → k ≤ n → IsLater k (wrong_behind n bytes)
wrong_later n k bytes h =
    cond_both (nat_eq n (length bytes)) (no_part CutOff) (no_part (Fails (n + 1) part_error.Grammar)) (IsLater k)
    (λ e. cut_later k) (λ e. fails_later k (n + 1) part_error.Grammar (omega (arith, h)))
