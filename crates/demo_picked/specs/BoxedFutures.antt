-- What a future behind a pointer gives.
use Rattle.std.specs.Prelude.{◌⊎◌, ℕ}
use Rattle.std.proofs.Common.{inl, inr}
use Rattle.web_body.specs.PollSteps.{GivesSome}

-- what a future gives; where it could give nothing at all, anything
abbrev pub GivesOrAll : {T : Type 0} → (ℕ → T → Type 0) → ℕ → T → Type 0
GivesOrAll {T} gives n x = gives n x ⊎ ((k : ℕ) (y : T) → gives k y → ⊥)

pub gives_or_all_some : {T : Type 0} (gives : ℕ → T → Type 0) (x : T)
    → GivesSome (GivesOrAll gives)
gives_or_all_some gives x none = none 0 x (inr (λ k y h. none k y (inl h)))

-- all that the first gives the second gives too
abbrev pub GivesWithin : {T : Type 0} → (ℕ → T → Type 0) → (ℕ → T → Type 0) → Type 0
GivesWithin {T} first second = (n : ℕ) (x : T) → first n x → second n x
