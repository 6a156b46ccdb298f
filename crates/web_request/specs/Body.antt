-- A body is a finite list of marks.
use Rattle.std.specs.Prelude.{ℕ, suc, Bool, true, false, ◌&&◌, List, [], ◌∷◌, ◌++◌}
use Rattle.std.specs.Prelude.{map, length, nat_lt}
use Rattle.web_request.specs.declared.source.Mark.{Mark}
use Rattle.web_request.specs.declared.source.Mark.TheVariants.{Piece, Stall, Fault}

-- no piece is empty, and a fault stands only last
abbrev pub is_body : List Mark → Bool
is_body [] = true
is_body (Piece b ∷ m) = nat_lt 0 (length b) && is_body m
is_body (Stall ∷ m) = is_body m
is_body (Fault ∷ []) = true
is_body (Fault ∷ x ∷ m) = false

-- the bytes of the pieces, in order
abbrev pub piece_bytes : List Mark → List ℕ
piece_bytes [] = []
piece_bytes (Piece b ∷ m) = b ++ piece_bytes m
piece_bytes (Stall ∷ m) = piece_bytes m
piece_bytes (Fault ∷ m) = piece_bytes m

-- how often the body stalls
abbrev pub stalls : List Mark → ℕ
stalls [] = 0
stalls (Piece b ∷ m) = stalls m
stalls (Stall ∷ m) = suc (stalls m)
stalls (Fault ∷ m) = stalls m

abbrev pub ends_in_fault : List Mark → Bool
ends_in_fault [] = false
ends_in_fault (Fault ∷ []) = true
ends_in_fault (x ∷ m) = ends_in_fault m

-- the body of these bytes: one piece, or none where there are no bytes
abbrev pub whole : List ℕ → List Mark
whole [] = []
whole (x ∷ xs) = Piece (x ∷ xs) ∷ []

-- the prefixes, the shortest first
abbrev pub prefixes : List Mark → List (List Mark)
prefixes [] = [] ∷ []
prefixes (x ∷ m) = [] ∷ map (λ p. x ∷ p) (prefixes m)
