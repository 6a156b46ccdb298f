-- The states of the future of one of two arguments.
use Rattle.std.specs.Prelude.{◌≡◌, ℕ, suc, Bool, true, false, List, Result, ⊤}
use Rattle.web_request.specs.Body.{whole}
use Rattle.web_request.specs.declared.source.Mark.{Mark}
use Rattle.web_body.specs.PollSteps.{GivesSome}
use Rattle.web_body.specs.declared.poll.Step.{Step}
use Rattle.web_body.specs.declared.poll.Step.TheVariants as step
use Rattle.web_reply.specs.Replies.{Fault}
use Rattle.web_extract.specs.Extracts.{AllowsSome}
use Rattle.web_extract.specs.ListMeanings.{ArgumentMeaning}
use Rattle.web_extract_body.specs.declared.either.EitherExtractState.{EitherExtractState}
use Rattle.web_extract_body.specs.declared.either.EitherExtractState.TheVariants as state
use Rattle.web_extract_body.specs.declared.either_steps.Next.{Next}
use Rattle.web_extract_body.specs.declared.either_steps.Next.TheVariants as next
use Rattle.web_extract_body.specs.AddedDelays.{Then, then_some}
use Rattle.web_extract_body.specs.EitherArgument.{EitherResult, On, ComesRight, AfterLeft}
use Rattle.web_extract_body.specs.EitherArgument.{AfterBytes, after_left_some, after_bytes_some}
use Rattle.web_extract_body.specs.EitherArgument.{right_some, on_some}

abbrev pub state_finished :
    {B L R E : Type 0} → (B → Bool) → (L → Bool) → (R → Bool) → EitherExtractState B L R E → Bool
state_finished b l r (state.Bytes f) = b f
state_finished b l r (state.Left f body) = l f
state_finished b l r (state.Right f e) = r f
state_finished b l r state.Finished = true

-- what may come: of the body, what follows it; of the left argument, what follows that; or the
-- right one
abbrev pub state_gives :
    {B L R V W E F : Type 0} → (B → ℕ → Result (List ℕ) Fault → Type 0)
    → (L → ℕ → Result V E → Type 0) → (R → ℕ → Result W F → Type 0)
    → ArgumentMeaning V E → ArgumentMeaning W F → EitherExtractState B L R E → ℕ
    → EitherResult V W E F → Type 0
state_gives b l r left right (state.Bytes f) n x = Then (b f) (AfterBytes left right) n x
state_gives b l r left right (state.Left f body) n x =
    Then (l f) (AfterLeft (On right (whole body))) n x
state_gives b l r left right (state.Right f e) n x = ComesRight e (r f) n x
state_gives b l r left right state.Finished n x = ⊥

-- a poll of what may give these: what is waited on gives the same one poll later, and what comes
-- was allowed at this poll
abbrev pub Proceeds :
    {S X : Type 0} → (S → Bool) → (S → ℕ → X → Type 0) → (ℕ → X → Type 0) → Next S X → Type 0
Proceeds {S} {X} finished gives old (next.Waits s) =
    (finished s ≡ false) × ((n : ℕ) (x : X) → gives s n x → old (suc n) x)
Proceeds finished gives old (next.Comes x) = old 0 x
Proceeds finished gives old next.NoMemory = ⊤

module _ {B L R V W E F : Type 0}
    (b_finished : B → Bool) (l_finished : L → Bool) (r_finished : R → Bool)
    (b : B → ℕ → Result (List ℕ) Fault → Type 0) (l : L → ℕ → Result V E → Type 0)
    (r : R → ℕ → Result W F → Type 0) (left : ArgumentMeaning V E) (right : ArgumentMeaning W F)
    (b_some : (f : B) → b_finished f ≡ false → GivesSome (b f))
    (l_some : (f : L) → l_finished f ≡ false → GivesSome (l f))
    (r_some : (f : R) → r_finished f ≡ false → GivesSome (r f))
    (left_some : (m : List Mark) → AllowsSome (left m))
    (right_allows : (m : List Mark) → AllowsSome (right m)) where
  pub state_some : (s : EitherExtractState B L R E)
      → state_finished b_finished l_finished r_finished s ≡ false
      → GivesSome (state_gives b l r left right s)
  state_some (state.Bytes f) h =
      then_some (b f) (AfterBytes left right) (b_some f h)
      (after_bytes_some left right left_some right_allows)
  state_some (state.Left f body) h =
      then_some (l f) (AfterLeft (On right (whole body))) (l_some f h)
      (after_left_some (On right (whole body))
      (on_some right (whole body) (right_allows (whole body))))
  state_some (state.Right f e) h = right_some e (r f) (r_some f h)
  state_some state.Finished h = absurd (cc)

-- what it gives may come of these marks
abbrev pub GivesOn :
    {T E : Type 0} → ArgumentMeaning T E → List Mark → (ℕ → Result T E → Type 0) → Type 0
GivesOn {T} {E} means m gives =
    (rest : List Mark) × ((n : ℕ) (x : Result T E) → gives n x → means m rest n x)

-- what is waited on is kept, and all else is returned
abbrev pub Keeps : {S X : Type 0} → S → Next S X → S → Step X → Type 0
Keeps old (next.Waits s) new t = (new ≡ s) × (t ≡ step.Pending)
Keeps old (next.Comes x) new t = (new ≡ old) × (t ≡ step.Ready x)
Keeps old next.NoMemory new t = (new ≡ old) × (t ≡ step.NoMemory)
