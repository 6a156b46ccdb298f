-- The parts of a text between the occurrences of a byte.
use Rattle.std.specs.Prelude.{ℕ, ◌==◌, List, [], Option, None, Some}
use Rattle.std.specs.Borrow.{Bor}
use Rattle.std.specs.List.{slice_split}

-- those of the text after the first occurrence, if there is one
abbrev pub parts_behind : ℕ → Option (Bor (List ℕ)) → List (List ℕ)
parts_behind mark None = []
parts_behind mark (Some rest) = slice_split (λ b. b == mark) rest.now
