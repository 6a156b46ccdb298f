-- Polls of lines that take no memory.
use Rattle.std.proofs.Common.{◌≡◌, inl, inr, ◌≤◌, ℕ, false, List, [], ◌∷◌, ◌++◌, Option, None, Some, refl, length, subst, arith}
use Rattle.std.specs.List.{list_any}
use Rattle.web_texts.specs.Bytes.{is_newline}
use Rattle.web_request.specs.declared.source.Mark.{Mark}
use Rattle.web_request.specs.declared.source.Mark.TheVariants.{Piece, Stall, Fault}
use Rattle.web_request.specs.Feed.{Takes, NoneLeft}
use Rattle.web_lines.specs.declared.line_cut.LineCut.TheVariants as cut
use Rattle.web_lines.specs.LineCuts.{IsTooLong, IsUnfinished, LeavesFront, RefusesLong}
use Rattle.web_lines.specs.LineMemory.{NeedsNoMemory, NextNeedsNoMemory}
use Rattle.web_lines.proofs.LineLemmas.{lines_first, one_line}

pub none_held : (limit : ℕ) → IsUnfinished limit []
none_held limit = record { none = refl; within = omega arith }

-- the front of a line within the limit is not too long
pub not_too_long : (limit : ℕ) (came : List ℕ) → IsUnfinished limit came → IsTooLong limit came → ⊥
not_too_long limit [] on long = absurd (omega (arith, long))
not_too_long limit (b ∷ came) on long =
    let h = rw (one_line b came on.none) at long in
    let within = on.within in
    omega (arith, h, within)

-- nor is a line that ends within it
pub ends_within : (limit : ℕ) (front rest : List ℕ) → list_any is_newline front ≡ false → length (front ++ 10 ∷ []) ≤ limit → IsTooLong limit (front ++ 10 ∷ rest) → ⊥
ends_within limit front rest none within long =
    let h = rw (lines_first front rest none) at long in
    omega (arith, h, within)

front_next : (limit : ℕ) (came : List ℕ) (m : List Mark) → NextNeedsNoMemory limit came m → IsUnfinished limit came
front_next limit came [] next = rw next (none_held limit)
front_next limit came (Piece b ∷ m) next = rw next.0 (none_held limit)
front_next limit came (Stall ∷ m) next = next
front_next limit came (Fault ∷ m) next = next

-- nothing is cut off
pub cut_lacks : (limit : ℕ) (came : List ℕ) (marks : Option (List Mark)) → LeavesFront limit came cut.NoMemory → RefusesLong limit came cut.NoMemory → NeedsNoMemory limit came marks → ⊥
cut_lacks limit came None leaves refuses need = let e = refuses need in absurd (cc)
cut_lacks limit came (Some m) leaves refuses (inl long) = let e = refuses long in absurd (cc)
cut_lacks limit came (Some m) leaves refuses (inr next) = let e = leaves (front_next limit came m next) in absurd (cc)

module _ (limit : ℕ) (came : List ℕ) (on : IsUnfinished limit came) where
  -- a source that does not state its marks may allocate
  pub unstated : (marks : Option (List Mark)) → marks ≡ None → NeedsNoMemory limit came marks → ⊥
  unstated marks is need = not_too_long limit came on (subst (NeedsNoMemory limit came) is need)

  pub piece_next : (b : List ℕ) (old new : Option (List Mark)) → Takes (Piece b) old new → NeedsNoMemory limit came old → (came ≡ []) × NeedsNoMemory limit (came ++ b) new
  piece_next b None new t need = absurd (not_too_long limit came on need)
  piece_next b (Some m) new t (inl long) = absurd (not_too_long limit came on long)
  piece_next b (Some m) new t (inr next) =
      let h = subst (NextNeedsNoMemory limit came) t.1 next in
      (h.0, rw (t.2, h.0) h.1)

  pub end_next : (old new : Option (List Mark)) → NoneLeft old new → NeedsNoMemory limit came old → came ≡ []
  end_next None new t need = absurd (not_too_long limit came on need)
  end_next (Some m) new t (inl long) = absurd (not_too_long limit came on long)
  end_next (Some m) new t (inr next) = subst (NextNeedsNoMemory limit came) t.0 next
