-- The first and the last position that a byte range selects are its ends, and no others are.
use Rattle.std.proofs.Common.{◌≡◌, ℕ, ◌-◌, ◌&&◌, Bool, true, false, nat_le, nat_lt, Option, None, Some, refl, ap, if◌then◌else◌, arith}
use Rattle.web_entities.specs.declared.ranges.ByteRangeSpec.{ByteRangeSpec}
use Rattle.web_entities.specs.declared.ranges.ByteRangeSpec.TheVariants as spec
use Rattle.web_negotiate.specs.SelectedPositions.{AreEnds, Selects}
use Rattle.web_docs.specs.SelectedEnds.{selected_ends}

pub one_pair_of_ends : (In : ℕ → Type 0) (ends others : Option (ℕ × ℕ)) → AreEnds In ends → AreEnds In others → ends ≡ others
one_pair_of_ends In None None are also = refl
one_pair_of_ends In None (Some f) are also = absurd (are f.0 also.0)
one_pair_of_ends In (Some e) None are also = absurd (also e.0 are.0)
one_pair_of_ends In (Some e) (Some f) are also =
    let low : e.0 ≡ f.0 = omega (arith, (are.2 f.0 also.0).0, (also.2 e.0 are.0).0) in
    let high : e.1 ≡ f.1 = omega (arith, (are.2 f.1 also.1).1, (also.2 e.1 are.1).1) in
    ap Some (λ i. (low i, high i))

module _ (In : ℕ → Type 0) (first last : ℕ) where
  ends_if : (is : Bool) → (is ≡ true → AreEnds In (Some (first, last))) → (is ≡ false → (p : ℕ) → In p → ⊥)
      → AreEnds In (if is then Some (first, last) else None)
  ends_if true some none = some refl
  ends_if false some none = none refl

pub are_selected_ends : (s : ByteRangeSpec) (n : ℕ) → AreEnds (Selects s n) (selected_ends s n)
are_selected_ends (spec.FromTo a b) n =
    ends_if (Selects (spec.FromTo a b) n) a (if nat_lt b n then b else n - 1) (nat_le a b && nat_lt a n)
    (λ is. ((grind arith, grind arith, grind arith), (grind arith, grind arith, grind arith), λ p h. (h.1, grind (arith, h))))
    (λ is p h. grind (arith, h))
are_selected_ends (spec.From a) n =
    ends_if (Selects (spec.From a) n) a (n - 1) (nat_lt a n)
    (λ is. ((grind arith, grind arith), (grind arith, grind arith), λ p h. (h.1, grind (arith, h))))
    (λ is p h. grind (arith, h))
are_selected_ends (spec.Last k) n =
    ends_if (Selects (spec.Last k) n) (n - k) (n - 1) (nat_lt 0 k && nat_lt 0 n)
    (λ is. ((grind arith, grind arith), (grind arith, grind arith), λ p h. (grind (arith, h), grind (arith, h))))
    (λ is p h. grind (arith, h))
