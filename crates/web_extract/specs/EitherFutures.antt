-- Futures of one of two kinds.
use Rattle.std.specs.Prelude.{◌≡◌, ℕ, Bool, false}
use Rattle.web_body.specs.PollSteps.{GivesSome}
use Rattle.web_extract.specs.declared.either_future.EitherFuture.{EitherFuture}
use Rattle.web_extract.specs.declared.either_future.EitherFuture.TheVariants.{Left, Right}

module _ {L R : Type 0} where
  abbrev pub either_finished : (L → Bool) → (R → Bool) → EitherFuture L R → Bool
  either_finished left right (Left f) = left f
  either_finished left right (Right f) = right f

  abbrev pub either_gives : {T : Type 0} → (L → ℕ → T → Type 0) → (R → ℕ → T → Type 0)
      → EitherFuture L R → ℕ → T → Type 0
  either_gives left right (Left f) n x = left f n x
  either_gives left right (Right f) n x = right f n x

  -- the next poll of the future inside allocates nothing
  abbrev pub EitherNeedsNoMemory : (L → Type 0) → (R → Type 0) → EitherFuture L R → Type 0
  EitherNeedsNoMemory left right (Left f) = left f
  EitherNeedsNoMemory left right (Right f) = right f

-- while it is not finished, it is not the case that nothing may come
abbrev GivesUntilFinished : {F T : Type 0} → (F → Bool) → (F → ℕ → T → Type 0) → Type 0
GivesUntilFinished {F} finished gives = (f : F) → finished f ≡ false → GivesSome (gives f)

pub either_some : {L R T : Type 0} (left_finished : L → Bool) (right_finished : R → Bool)
    (left : L → ℕ → T → Type 0) (right : R → ℕ → T → Type 0)
    → GivesUntilFinished left_finished left → GivesUntilFinished right_finished right
    → (f : EitherFuture L R) → either_finished left_finished right_finished f ≡ false
    → GivesSome (either_gives left right f)
either_some lf rf left right ls rs (Left f) h = ls f h
either_some lf rf left right ls rs (Right f) h = rs f h
