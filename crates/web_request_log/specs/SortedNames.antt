-- The names of header fields in the order of their bytes.
use Rattle.std.specs.Prelude.{ℕ, Bool, List, [], ◌∷◌, if◌then◌else◌}
use Rattle.std.specs.Ordering.{nat_cmp, is_lt}
use Rattle.std.specs.Cmp.Lexicographic.{slice_cmp}
use Rattle.std.specs.List.Sorted.{IsPermutation, IsSorted}

-- whether a name precedes another in the order of their bytes
abbrev pub before : List ℕ → List ℕ → Bool
before a b = is_lt (slice_cmp nat_cmp a b)

-- the other list has the same names, in increasing order
abbrev pub IsIncreasing : List (List ℕ) → List (List ℕ) → Type 0
IsIncreasing names others = IsPermutation names others × IsSorted (slice_cmp nat_cmp) others

-- the names with one more, which precedes the first that is greater
abbrev pub with_name : List ℕ → List (List ℕ) → List (List ℕ)
with_name a [] = a ∷ []
with_name a (b ∷ names) = if before a b then a ∷ b ∷ names else b ∷ with_name a names

-- the names in increasing order; `header_order_law` says that there is no other such list
abbrev pub sorted_names : List (List ℕ) → List (List ℕ)
sorted_names [] = []
sorted_names (a ∷ names) = with_name a (sorted_names names)
