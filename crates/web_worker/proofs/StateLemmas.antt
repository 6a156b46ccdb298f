-- The state of a service over steps.
use Rattle.std.proofs.Common.{◌∙◌, refl, subst, inl, inr}
use Rattle.std.specs.Prelude.{List, [], ◌∷◌, Option, None, Some}
use Rattle.web_reply.specs.ResponseBodies.{Plain}
use Rattle.web_reply.specs.Replies.{Reply}
use Rattle.web_worker.specs.Outcomes.{OutcomeView, OutcomeView.Replied, OutcomeView.Unfinished}
use Rattle.web_worker.specs.Outcomes.{OutcomeView.NoMemory}
use Rattle.web_worker.specs.ServiceStates.{MovesTo, Run, Runs, SameSteps, States, Stays, Steps}
use Rattle.web_worker.specs.ServiceStates.{stateless}

pub steps_on : {X Q : Type 0} (a b c : X → Q → Option (Reply Plain) → X → Type 0) → SameSteps a b
    → SameSteps b c → SameSteps a c
steps_on a b c f g = record {
  kept = λ x q r y h. f.kept x q r y (g.kept x q r y h);
  same = λ x q r y h. g.same x q r y (f.same x q r y h);
}

module _ {T Q : Type 0} (states : States T Q) where
  pub stays_refl : (a : T) → Stays states a a
  stays_refl a = (refl, record { kept = λ x q r y h. h; same = λ x q r y h. h })

  pub stays_on : (a b c : T) → Stays states a b → Stays states b c → Stays states a c
  stays_on a b c s t =
      (t.0 ∙ s.0, steps_on (states.steps a) (states.steps b) (states.steps c) s.1 t.1)

  step_on : (q : Q) (r : Option (Reply Plain)) (a b c : T) → Stays states a b
      → Steps states q r b c → Steps states q r a c
  step_on q r a b c s t = (
    subst (λ (z : states.State). states.steps a z q r (states.state c)) s.0
        (s.1.kept (states.state b) q r (states.state c) t.0),
    steps_on (states.steps a) (states.steps b) (states.steps c) s.1 t.1,
  )

  -- the same state, and then what a poll makes of it
  pub moves_on : (q : Q) (o : OutcomeView) (a b c : T) → Stays states a b → MovesTo states q o b c
      → MovesTo states q o a c
  moves_on q (Replied r) a b c s t = step_on q (Some r) a b c s t
  moves_on q Unfinished a b c s t = stays_on a b c s t
  moves_on q NoMemory a b c s (inl t) = inl (stays_on a b c s t)
  moves_on q NoMemory a b c s (inr t) = inr (step_on q None a b c s t)

-- where no state is stated, each poll leaves it
pub stateless_moves : {T Q : Type 0} (q : Q) (o : OutcomeView) (a b : T)
    → MovesTo (stateless {S = T} {Q = Q}) q o a b
stateless_moves q (Replied r) a b =
    (refl, record { kept = λ x p z y h. h; same = λ x p z y h. h })
stateless_moves q Unfinished a b =
    (refl, record { kept = λ x p z y h. h; same = λ x p z y h. h })
stateless_moves q NoMemory a b =
    inl (refl, record { kept = λ x p z y h. h; same = λ x p z y h. h })

-- a run of steps that are the same as others
run_as : {X Q : Type 0} (a b : X → Q → Option (Reply Plain) → X → Type 0) → SameSteps a b
    → (qs : List Q) (os : List OutcomeView) (x y : X) → Run b qs os x y → Run a qs os x y
run_as a b f [] [] x y h = h
run_as a b f (q ∷ qs) (Replied r ∷ os) x y h =
    (h.0, f.kept x q (Some r) h.0 h.1, run_as a b f qs os h.0 y h.2)
run_as a b f (q ∷ qs) (Unfinished ∷ os) x y h = run_as a b f qs os x y h
run_as a b f (q ∷ qs) (NoMemory ∷ os) x y (inl h) = inl (run_as a b f qs os x y h)
run_as a b f (q ∷ qs) (NoMemory ∷ os) x y (inr h) =
    inr (h.0, f.kept x q None h.0 h.1, run_as a b f qs os h.0 y h.2)
run_as a b f [] (o ∷ os) x y h = absurd h
run_as a b f (q ∷ qs) [] x y h = absurd h

module _ {T Q : Type 0} (states : States T Q) where
  pub runs_none : (a : T) → Runs states [] [] a a
  runs_none a = (refl, record { kept = λ x q r y h. h; same = λ x q r y h. h })

  stays_before : (a b c : T) (qs : List Q) (os : List OutcomeView) → Stays states a b
      → Runs states qs os b c
      → Run (states.steps a) qs os (states.state a) (states.state c)
  stays_before a b c qs os s h =
      subst (λ (z : states.State). Run (states.steps a) qs os z (states.state c)) s.0
      (run_as (states.steps a) (states.steps b) s.1 qs os (states.state b) (states.state c) h.0)

  -- one exchange, and a run after it
  pub runs_next : (q : Q) (o : OutcomeView) (qs : List Q) (os : List OutcomeView) (a b c : T)
      → MovesTo states q o a b → Runs states qs os b c → Runs states (q ∷ qs) (o ∷ os) a c
  runs_next q (Replied r) qs os a b c s h = (
    (
      states.state b,
      s.0,
      run_as (states.steps a) (states.steps b) s.1 qs os (states.state b)
          (states.state c) h.0,
    ),
    steps_on (states.steps a) (states.steps b) (states.steps c) s.1 h.1,
  )
  runs_next q Unfinished qs os a b c s h = (
    stays_before a b c qs os s h,
    steps_on (states.steps a) (states.steps b) (states.steps c) s.1 h.1,
  )
  runs_next q NoMemory qs os a b c (inl s) h = (
    inl (stays_before a b c qs os s h),
    steps_on (states.steps a) (states.steps b) (states.steps c) s.1 h.1,
  )
  runs_next q NoMemory qs os a b c (inr s) h = (
    inr (
      states.state b,
      s.0,
      run_as (states.steps a) (states.steps b) s.1 qs os (states.state b)
          (states.state c) h.0,
    ),
    steps_on (states.steps a) (states.steps b) (states.steps c) s.1 h.1,
  )
