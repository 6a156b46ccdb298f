-- A text cut at a mark, but not where a mode says that the mark does not cut.
use Rattle.std.specs.Prelude.{◌≡◌, ◌<◌, ℕ, ◌+◌, ◌==◌, ◌&&◌, Bool, List, [], ◌∷◌, length, take, drop}
use Rattle.std.specs.Prelude.{slice_index, Option, None, Some, if◌then◌else◌}
use Rattle.std.specs.Borrow.{Bor}
use Rattle.std.specs.List.{onto_first}

-- The mark; the modes in which it cuts; the mode after a byte; and the mode in which each piece
-- starts.
pub record Rule (M : Type 0) : Type 0 where
  pub mark : ℕ
  pub cuts : M → Bool
  pub next : M → ℕ → M
  pub start : M

abbrev pub ends_piece : {M : Type 0} → Rule M → M → ℕ → Bool
ends_piece rule mode b = rule.cuts mode && b == rule.mark

-- the pieces of a text, from a place in this mode on
abbrev pub pieces : {M : Type 0} → Rule M → M → List ℕ → List (List ℕ)
pieces rule mode [] = [] ∷ []
pieces rule mode (b ∷ rest) =
    if ends_piece rule mode b then [] ∷ pieces rule rule.start rest
    else onto_first b (pieces rule (rule.next mode b) rest)

-- the first piece ends at this place
pub record IsFirstPlace {M : Type 0} (rule : Rule M) (i : ℕ) (text : List ℕ) : Type 0 where
  pub inside : i < length text
  pub marked : slice_index text i ≡ rule.mark
  pub cut : pieces rule rule.start text ≡
      take i text ∷ pieces rule rule.start (drop (i + 1) text)

abbrev pub pieces_behind : {M : Type 0} → Rule M → Option (Bor (List ℕ)) → List (List ℕ)
pieces_behind rule None = []
pieces_behind rule (Some rest) = pieces rule rule.start rest.now

-- the first piece, and what stands after its mark, if it has one
abbrev pub IsFirstPiece : {M : Type 0} → Rule M → List ℕ → List ℕ → Option (Bor (List ℕ)) → Type 0
IsFirstPiece rule text piece behind =
    pieces rule rule.start text ≡ piece ∷ pieces_behind rule behind
