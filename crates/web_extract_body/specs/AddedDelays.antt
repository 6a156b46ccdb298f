-- A result that comes after another one: the numbers of polls add up.
use Rattle.std.specs.Prelude.{◌≡◌, ℕ, ◌+◌, refl}
use Rattle.web_body.specs.PollSteps.{GivesSome}

-- y comes after k polls, and x after j more
abbrev pub Then : {Y X : Type 0} → (ℕ → Y → Type 0) → (Y → ℕ → X → Type 0) → ℕ → X → Type 0
Then {Y} first after n x = (k j : ℕ) × (y : Y) × first k y × after y j x × (n ≡ k + j)

pub then_some : {Y X : Type 0} (first : ℕ → Y → Type 0) (after : Y → ℕ → X → Type 0)
    → GivesSome first → ((y : Y) → GivesSome (after y)) → GivesSome (Then first after)
then_some first after some more none =
    some (λ k y h. more y (λ j x g. none (k + j) x (k, j, y, h, g, refl)))
