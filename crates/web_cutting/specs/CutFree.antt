-- Arguments that do not depend on how the body is cut.
use Rattle.std.specs.Prelude.{ℕ, List, length, ◌≤◌}
use Rattle.web_request.specs.Body.{piece_bytes}
use Rattle.web_request.specs.declared.source.Mark.{Mark}
use Rattle.web_body.specs.Cuttings.{SameBody}

-- The same results may come of one body in two cuttings, and what is left is again one body in two
-- cuttings. The number of polls is free.
abbrev pub CutFree : {X : Type 0} → (List Mark → List Mark → ℕ → X → Type 0) → Type 0
CutFree {X} means =
    (m n rest : List Mark) (d : ℕ) (x : X) → SameBody m n → means m rest d x
    → (left : List Mark) × (e : ℕ) × means n left e x × SameBody rest left

-- the same of bodies of at most this many bytes
abbrev pub CutFreeWithin : {X : Type 0}
    → ℕ → (List Mark → List Mark → ℕ → X → Type 0) → Type 0
CutFreeWithin {X} limit means =
    (m n rest : List Mark) (d : ℕ) (x : X) → SameBody m n → length (piece_bytes m) ≤ limit
    → means m rest d x → (left : List Mark) × (e : ℕ) × means n left e x × SameBody rest left
