-- The last piece that was taken.
use Rattle.std.specs.Prelude.{◌≡◌, ℕ, List, [], ◌∷◌, ◌++◌, length, Option, None, Some}
use Rattle.web_request.specs.declared.source.Mark.{Mark}
use Rattle.web_request.specs.declared.source.Mark.TheVariants.{Piece, Stall, Fault}

-- the number of bytes of the last piece among these marks, and n where there is none
abbrev pub last_size : ℕ → List Mark → ℕ
last_size n [] = n
last_size n (Piece b ∷ m) = last_size (length b) m
last_size n (Stall ∷ m) = last_size n m
last_size n (Fault ∷ m) = last_size n m

-- Where the marks are stated, some were taken from their front and the others are left, and the
-- last piece has k bytes, where the last one before them had n.
abbrev pub LastTaken : Option (List Mark) → ℕ → Option (List Mark) → ℕ → Type 0
LastTaken None n new k = new ≡ None
LastTaken (Some m) n new k =
    (taken rest : List Mark) × (m ≡ taken ++ rest) × (new ≡ Some rest) × (k ≡ last_size n taken)
