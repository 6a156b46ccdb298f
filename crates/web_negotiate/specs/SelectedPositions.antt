-- The positions of a representation that a byte range selects (RFC 9110, section 14.1.2).
use Rattle.std.specs.Prelude.{◌≤◌, ◌<◌, ℕ, ◌+◌, Option, None, Some}
use Rattle.web_entities.specs.declared.ranges.ByteRangeSpec.{ByteRangeSpec}
use Rattle.web_entities.specs.declared.ranges.ByteRangeSpec.TheVariants as spec

-- a position below n that the range selects
abbrev pub Selects : ByteRangeSpec → ℕ → ℕ → Type 0
Selects (spec.FromTo a b) n p = (p < n) × (a ≤ p) × (p ≤ b)
Selects (spec.From a) n p = (p < n) × (a ≤ p)
Selects (spec.Last k) n p = (p < n) × (n ≤ p + k)

-- the least and the greatest number of a set, or nothing where it is empty
abbrev pub AreEnds : (ℕ → Type 0) → Option (ℕ × ℕ) → Type 0
AreEnds In None = (p : ℕ) → In p → ⊥
AreEnds In (Some ends) =
    In ends.0 × In ends.1 × ((p : ℕ) → In p → (ends.0 ≤ p) × (p ≤ ends.1))
