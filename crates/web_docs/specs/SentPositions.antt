-- The bytes of a document at a set of positions.
use Rattle.std.specs.Prelude.{◌≡◌, ◌⊎◌, ℕ, ◌+◌, List, [], ◌∷◌}

-- The part has the bytes of the document at the positions of the set, in their order, and nothing
-- else. Positions count from 0.
abbrev pub AreBytesAt : (ℕ → Type 0) → List ℕ → List ℕ → Type 0
AreBytesAt In [] part = part ≡ []
AreBytesAt In (byte ∷ more) part =
    (In 0 × (rest : List ℕ) × (part ≡ byte ∷ rest) × AreBytesAt (λ p. In (p + 1)) more rest)
    ⊎ ((In 0 → ⊥) × AreBytesAt (λ p. In (p + 1)) more part)
