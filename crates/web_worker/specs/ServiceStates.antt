-- What a service keeps from one exchange to the next, and how each exchange changes it.
use Rattle.std.specs.Prelude.{◌≡◌, List, [], ◌∷◌, Option, None, Some, ⊤, ◌⊎◌}
use Rattle.web_reply.specs.ResponseBodies.{Plain}
use Rattle.web_reply.specs.Replies.{Reply}
use Rattle.web_worker.specs.Outcomes.{OutcomeView}
use Rattle.web_worker.specs.Outcomes.{OutcomeView.Replied, OutcomeView.Unfinished}
use Rattle.web_worker.specs.Outcomes.{OutcomeView.NoMemory}

-- S is the service, and Q a request
pub record States (S Q : Type 0) : Type 1 where
  pub State : Type 0
  pub state : S → State
  -- in this state, this reply to this request may lead to that state; None is a reply that is lost,
  -- where an allocation failed
  pub steps : S → State → Q → Option (Reply Plain) → State → Type 0

-- a service whose state, if it has one, is not stated
abbrev pub stateless : {S Q : Type 0} → States S Q
stateless = record { State = ⊤; state = λ s. tt; steps = λ s a q r b. b ≡ a }

-- the same steps as before, from each state
pub record SameSteps
    {X Q : Type 0} (old new : X → Q → Option (Reply Plain) → X → Type 0) : Type 0 where
  pub kept : (a : X) (q : Q) (r : Option (Reply Plain)) (b : X) → new a q r b → old a q r b
  pub same : (a : X) (q : Q) (r : Option (Reply Plain)) (b : X) → old a q r b → new a q r b

-- A run of the steps from a state to a state: requests that are served one after another, with the
-- outcome of each. One that is unfinished makes no step, and one that lacks memory none, or one
-- whose reply is lost.
abbrev pub Run : {X Q : Type 0} → (X → Q → Option (Reply Plain) → X → Type 0) → List Q
    → List OutcomeView → X → X → Type 0
Run steps [] [] a b = b ≡ a
Run {X} steps (q ∷ qs) (Replied r ∷ os) a b = (c : X) × steps a q (Some r) c × Run steps qs os c b
Run steps (q ∷ qs) (Unfinished ∷ os) a b = Run steps qs os a b
Run {X} steps (q ∷ qs) (NoMemory ∷ os) a b =
    Run steps qs os a b ⊎ ((c : X) × steps a q None c × Run steps qs os c b)
Run steps [] (o ∷ os) a b = ⊥
Run steps (q ∷ qs) [] a b = ⊥

-- some run of the steps leads from the first state to the second
abbrev pub Reaches : {X Q : Type 0} → (X → Q → Option (Reply Plain) → X → Type 0) → X → X → Type 0
Reaches {X} {Q} steps a b = (qs : List Q) × (os : List OutcomeView) × Run steps qs os a b

module _ {S Q : Type 0} (states : States S Q) where
  -- these requests and outcomes are a run from the state of the first to that of the second
  abbrev pub Runs : List Q → List OutcomeView → S → S → Type 0
  Runs qs os old new =
      Run (states.steps old) qs os (states.state old) (states.state new)
      × SameSteps (states.steps old) (states.steps new)

  abbrev pub Stays : S → S → Type 0
  Stays old new =
      (states.state new ≡ states.state old) × SameSteps (states.steps old) (states.steps new)

  -- one step
  abbrev pub Steps : Q → Option (Reply Plain) → S → S → Type 0
  Steps q r old new =
      states.steps old (states.state old) q r (states.state new)
      × SameSteps (states.steps old) (states.steps new)

  -- no step, or one whose reply is lost
  abbrev pub MayStep : Q → S → S → Type 0
  MayStep q old new = Stays old new ⊎ Steps q None old new

  -- one poll of a call for this request: the state stays until the answer is there
  abbrev pub MovesTo : Q → OutcomeView → S → S → Type 0
  MovesTo q (Replied r) old new = Steps q (Some r) old new
  MovesTo q Unfinished old new = Stays old new
  MovesTo q NoMemory old new = MayStep q old new
