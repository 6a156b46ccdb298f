-- A value that is there at the second poll.
use Rattle.std.specs.Prelude.{◌≡◌, ℕ, Bool, true, false, refl}
use Rattle.web_body.specs.PollSteps.{GivesSome}
use Rattle.example_handlers.specs.declared.second_poll.SecondPoll.{SecondPoll}
use Rattle.example_handlers.specs.declared.second_poll.SecondPoll.TheVariants.{New, Stalled}
use Rattle.example_handlers.specs.declared.second_poll.SecondPoll.TheVariants.{Finished}

-- its value was returned
abbrev pub second_finished : {T : Type 0} → SecondPoll T → Bool
second_finished (New y) = false
second_finished (Stalled y) = false
second_finished Finished = true

-- the value comes after one poll that returns Pending, and after none once that poll is over
abbrev pub second_gives : {T : Type 0} → SecondPoll T → ℕ → T → Type 0
second_gives (New y) n x = (n ≡ 1) × (x ≡ y)
second_gives (Stalled y) n x = (n ≡ 0) × (x ≡ y)
second_gives Finished n x = ⊥

-- until it is finished, some value may come
pub second_some : {T : Type 0} (f : SecondPoll T) → second_finished f ≡ false
    → GivesSome (second_gives f)
second_some (New y) h none = none 1 y (refl, refl)
second_some (Stalled y) h none = none 0 y (refl, refl)
second_some Finished h none = absurd cc
