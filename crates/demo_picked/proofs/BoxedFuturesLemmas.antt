-- A future behind a pointer gives what the future inside gives.
use Rattle.std.proofs.Common.{◌≡◌, ℕ, suc, List, inl, inr}
use Rattle.std.specs.Prelude.{Bool, false, Option, None, Some}
use Rattle.web_request.specs.declared.source.Mark.{Mark}
use Rattle.web_body.specs.PollSteps.{Ends, GivesSome, IfReady, Shifts}
use Rattle.web_body.specs.declared.poll.Step.{Step}
use Rattle.web_body.specs.declared.poll.Step.TheVariants.{Pending, Ready, NoMemory}
use Rattle.web_extract.specs.Extracts.{Extracts}
use Rattle.demo_picked.specs.BoxedFutures.{GivesOrAll, GivesWithin}

pub ready_or_all : {T : Type 0} (step : Step T) (gives : ℕ → T → Type 0)
    → IfReady step (λ x. gives 0 x) → IfReady step (λ x. GivesOrAll gives 0 x)
ready_or_all Pending gives h = h
ready_or_all (Ready x) gives h = inl h
ready_or_all NoMemory gives h = h

shifted : {T : Type 0} (old new : ℕ → T → Type 0) → GivesSome new
    → ((n : ℕ) (x : T) → new n x → old (suc n) x)
    → (n : ℕ) (x : T) → GivesOrAll new n x → GivesOrAll old (suc n) x
shifted old new some shift n x (inl h) = inl (shift n x h)
shifted old new some shift n x (inr never) = absurd (some never)

pub shifts_or_all : {T : Type 0} (step : Step T) (old new : ℕ → T → Type 0) (finished : Bool)
    → Ends step finished → (finished ≡ false → GivesSome new)
    → Shifts step old new → Shifts step (GivesOrAll old) (GivesOrAll new)
shifts_or_all Pending old new finished ends some shift = shifted old new (some ends) shift
shifts_or_all (Ready x) old new finished ends some shift = shift
shifts_or_all NoMemory old new finished ends some shift = shift

pub gives_where_some : {T : Type 0} (gives : ℕ → T → Type 0) → GivesSome gives
    → GivesWithin (GivesOrAll gives) gives
gives_where_some gives some n x (inl h) = h
gives_where_some gives some n x (inr never) = absurd (some never)

-- a future that gives less is made of the same marks
pub extracts_within : {T : Type 0} (means : List Mark → List Mark → ℕ → T → Type 0)
    (first second : ℕ → T → Type 0) (old new : Option (List Mark))
    → GivesWithin first second → Extracts means second old new → Extracts means first old new
extracts_within means first second None new within h = h
extracts_within means first second (Some m) new within h =
    (h.0, h.1, λ n x k. h.2 n x (within n x k))
