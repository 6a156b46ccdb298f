-- Where a poll of lines takes no memory.
use Rattle.std.specs.Prelude.{◌≡◌, ◌⊎◌, ℕ, List, [], ◌∷◌, Option, None, Some}
use Rattle.web_request.specs.declared.source.Mark.{Mark}
use Rattle.web_request.specs.declared.source.Mark.TheVariants.{Piece, Stall, Fault}
use Rattle.web_lines.specs.LineCuts.{IsTooLong, IsUnfinished}

-- The front of a line came, and a stall or a fault is next; or nothing came, and the end is next,
-- or a piece that is too long a line or of which the same holds.
abbrev pub NextNeedsNoMemory : ℕ → List ℕ → List Mark → Type 0
NextNeedsNoMemory limit came [] = came ≡ []
NextNeedsNoMemory limit came (Stall ∷ m) = IsUnfinished limit came
NextNeedsNoMemory limit came (Fault ∷ m) = IsUnfinished limit came
NextNeedsNoMemory limit came (Piece b ∷ m) =
    (came ≡ []) × (IsTooLong limit b ⊎ NextNeedsNoMemory limit b m)

-- What makes a poll allocate nothing: too long a line came; or, where the marks are stated, what is
-- next needs no memory.
abbrev pub NeedsNoMemory : ℕ → List ℕ → Option (List Mark) → Type 0
NeedsNoMemory limit came None = IsTooLong limit came
NeedsNoMemory limit came (Some m) = IsTooLong limit came ⊎ NextNeedsNoMemory limit came m
