-- The states of a route and of a service whose replies are changed.
use Rattle.std.proofs.Common.{refl, inl, inr}
use Rattle.std.specs.Prelude.{Option, None, Some, Result, Ok, [], ◌∷◌}
use Rattle.web_texts.specs.declared.memory.NoMemory.{NoMemory as Wanting}
use Rattle.web_reply.specs.ResponseBodies.{Plain}
use Rattle.web_reply.specs.Replies.{Fault, Reply}
use Rattle.web_reply.specs.Responders.{Refuses}
use Rattle.web_routing.specs.ServiceRoutes.{ChangedSteps, changed_states}
use Rattle.web_routing.specs.StateServices.{StateSteps, kept_states}
use Rattle.web_worker.specs.Outcomes.{OutcomeMeets, OutcomeView, OutcomeView.Replied}
use Rattle.web_worker.specs.Outcomes.{OutcomeView.Unfinished, OutcomeView.NoMemory}
use Rattle.web_worker.specs.ServiceStates.{MayStep, MovesTo, Reaches, SameSteps, States, Steps}

module _ {X Q : Type 0} (changes : Q → Reply Plain → Reply Plain → Type 0)
    (a b : X → Q → Option (Reply Plain) → X → Type 0)
    (on : (x : X) (q : Q) (r : Option (Reply Plain)) (y : X) → a x q r y → b x q r y) where
  changed_on : (x : X) (q : Q) (r : Option (Reply Plain)) (y : X)
      → ChangedSteps changes a x q r y → ChangedSteps changes b x q r y
  changed_on x q (Some p) y h = (h.0, on x q (Some h.0) y h.1, h.2)
  changed_on x q None y (inl h) = inl (on x q None y h)
  changed_on x q None y (inr h) = inr (h.0, on x q (Some h.0) y h.1)

same_changed : {X Q : Type 0} (changes : Q → Reply Plain → Reply Plain → Type 0)
    (a b : X → Q → Option (Reply Plain) → X → Type 0) → SameSteps a b
    → SameSteps (ChangedSteps changes a) (ChangedSteps changes b)
same_changed changes a b f = record {
  kept = changed_on changes b a f.kept;
  same = changed_on changes a b f.same;
}

-- a service whose reply could not be changed
pub changed_lost : {S Q : Type 0} (states : States S Q)
    (changes : Q → Reply Plain → Reply Plain → Type 0) (a b : S) (q : Q) (r : Reply Plain)
    → Steps states q (Some r) a b
    → MayStep (changed_states (λ s. s) (λ s. changes) states) q a b
changed_lost states changes a b q r s =
    inr (inr (r, s.0), same_changed changes (states.steps a) (states.steps b) s.1)

-- a state that was asked for a reply, which is lost
pub state_lost : {H Q : Type 0} (steps : H → Q → Option (Reply Plain) → H → Type 0) (a b : H) (q : Q)
    → steps a q None b → MayStep (kept_states (λ h. h) steps) q a b
state_lost steps a b q s =
    inr (s, record { kept = λ x p r y h. h; same = λ x p r y h. h })

module _ {S H V Y Q E : Type 0} (place : S → H) (replies : H → V → Result Y Wanting → H → Type 0)
    (converts : E → Fault → Type 0) (responds : Y → Q → Reply Plain → Type 0) where
  abbrev kept : States S Q
  kept = kept_states place (StateSteps replies converts responds)

  always : (a b : S) → SameSteps (kept.steps a) (kept.steps b)
  always a b = record { kept = λ x p r y h. h; same = λ x p r y h. h }

  pub state_replied : (a b : S) (q : Q) (v : V) (y : Y) → replies (place a) v (Ok y) (place b)
      → (o : OutcomeView) → OutcomeMeets (λ r. responds y q r) o → MovesTo kept q o a b
  state_replied a b q v y h (Replied r) m = (inr (v, y, h, m), always a b)
  state_replied a b q v y h Unfinished m = absurd m
  state_replied a b q v y h NoMemory m = inr ((v, Ok y, h), always a b)

  pub state_refused : (a : S) (q : Q) (e : E) (o : OutcomeView)
      → OutcomeMeets (λ r. Refuses converts e r) o → MovesTo kept q o a a
  state_refused a q e (Replied r) m = (inl (refl, e, m), always a a)
  state_refused a q e Unfinished m = absurd m
  state_refused a q e NoMemory m = inl (refl, always a a)

-- what one poll makes of a state is a run of its steps
pub reached : {S Q : Type 0} (states : States S Q) (a b : S) (q : Q) (o : OutcomeView)
    → MovesTo states q o a b → Reaches (states.steps a) (states.state a) (states.state b)
reached states a b q (Replied r) h =
    (q ∷ [], Replied r ∷ [], (states.state b, h.0, refl))
reached states a b q Unfinished h = ([], [], h.0)
reached states a b q NoMemory (inl h) = ([], [], h.0)
reached states a b q NoMemory (inr h) =
    (q ∷ [], NoMemory ∷ [], inr (states.state b, h.0, refl))
