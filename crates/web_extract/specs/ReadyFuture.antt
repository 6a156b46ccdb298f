-- Futures that are ready.
use Rattle.std.specs.Prelude.{◌≡◌, ℕ, false, List, Option, None, Some, Result, Ok, is_none, refl}
use Rattle.web_request.specs.declared.source.Mark.{Mark}
use Rattle.web_body.specs.PollSteps.{GivesSome}
use Rattle.web_extract.specs.Extracts.{AllowsSome}
use Rattle.web_extract.specs.declared.never.Never.{Never}

-- the value that is held comes at the first poll
abbrev pub GivesHeld : {T : Type 0} → Option T → ℕ → T → Type 0
GivesHeld None n x = ⊥
GivesHeld (Some y) n x = (n ≡ 0) × (x ≡ y)

pub held_some : {T : Type 0} (held : Option T) → is_none held ≡ false → GivesSome (GivesHeld held)
held_some None h none = absurd cc
held_some (Some y) h none = none 0 y (refl, refl)

-- no mark is taken, and the value comes at the first poll
abbrev pub MeansUnit : List Mark → List Mark → ℕ → Result (Unit {0}) Never → Type 0
MeansUnit m rest n x = (rest ≡ m) × (n ≡ 0) × (x ≡ Ok tt)

pub unit_some : (m : List Mark) → AllowsSome (MeansUnit m)
unit_some m none = none m 0 (Ok tt) (refl, refl, refl)
