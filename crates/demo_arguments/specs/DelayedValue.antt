-- Values that come after some polls.
use Rattle.std.specs.Prelude.{◌≡◌, ℕ, suc, false, Option, None, Some, is_none, refl}
use Rattle.web_body.specs.PollSteps.{GivesSome, MatchStep}
use Rattle.web_body.specs.declared.poll.Step.{Step}

-- a value that comes after some polls
pub record DelayedView (T : Type 0) : Type 0 where
  -- how many polls will still return Pending
  pub left : ℕ
  -- the value, until a poll returned it
  pub value : Option T

-- the value, if there is one, comes after this number of polls
abbrev pub GivesAfter : {T : Type 0} → ℕ → Option T → ℕ → T → Type 0
GivesAfter left None n x = ⊥
GivesAfter left (Some y) n x = (n ≡ left) × (x ≡ y)

abbrev pub GivesDelayed : {T : Type 0} → DelayedView T → ℕ → T → Type 0
GivesDelayed f n x = GivesAfter f.left f.value n x

pub delayed_some : {T : Type 0} (left : ℕ) (value : Option T)
    → is_none value ≡ false → GivesSome (GivesAfter left value)
delayed_some left None h none = absurd cc
delayed_some left (Some y) h none = none left y (refl, refl)

-- Pending and one poll fewer is left, or none was left and the value is returned; never NoMemory
abbrev pub CountsDown : {T : Type 0} → DelayedView T → Step T → DelayedView T → Type 0
CountsDown old step new =
    MatchStep step ((old.left ≡ suc new.left) × (new.value ≡ old.value))
    (λ x. (old.left ≡ 0) × (old.value ≡ Some x)) ⊥
