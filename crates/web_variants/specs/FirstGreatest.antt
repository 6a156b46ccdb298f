-- The first item of the greatest rank above zero, as a function of a list.
use Rattle.std.specs.Prelude.{ℕ, List, [], ◌∷◌, nat_lt}
use Rattle.std.specs.Prelude.{Option, None, Some, if◌then◌else◌}

-- an item whose rank is above zero, unless what was found after it is greater
abbrev pub or_greater : {X : Type 0} → (X → ℕ) → X → Option X → Option X
or_greater rank x None = if nat_lt 0 (rank x) then Some x else None
or_greater rank x (Some y) = if nat_lt (rank x) (rank y) then Some y else Some x

-- nothing where every rank is zero
abbrev pub first_greatest : {X : Type 0} → (X → ℕ) → List X → Option X
first_greatest rank [] = None
first_greatest rank (x ∷ xs) = or_greater rank x (first_greatest rank xs)
