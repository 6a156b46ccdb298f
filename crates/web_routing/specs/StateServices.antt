-- Services with a state, which replies to arguments and is another afterwards.
use Rattle.std.proofs.Common.{inl, inr, subst}
use Rattle.std.specs.Prelude.{◌≡◌, ◌⊎◌, ℕ, Option, None, Some, Result, Ok, Bool, false}
use Rattle.std.specs.Prelude.{List, [], ◌∷◌, ◌++◌}
use Rattle.web_texts.specs.declared.memory.NoMemory.{NoMemory}
use Rattle.web_reply.specs.ResponseBodies.{Plain}
use Rattle.web_reply.specs.Replies.{Fault, Reply}
use Rattle.web_reply.specs.Responders.{Refuses}
use Rattle.web_body.specs.PollSteps.{GivesSome}
use Rattle.web_request.specs.Request.{Request}
use Rattle.web_worker.specs.ExchangeRules.{Rules}
use Rattle.web_worker.specs.HandlerServices.{extracting_promise, comes_never}
use Rattle.web_worker.specs.Outcomes.{OutcomeView}
use Rattle.web_worker.specs.Outcomes.{OutcomeView.Replied, OutcomeView.Unfinished}
use Rattle.web_worker.specs.Outcomes.{OutcomeView.NoMemory as Lost}
use Rattle.web_worker.specs.ServiceStates.{Reaches, Run, States}

module _ {H V Y : Type 0} (replies : H → V → Result Y NoMemory → H → Type 0) where
  -- in some state it gives this value, at once
  abbrev pub StateAnswers : V → ℕ → Y → Type 0
  StateAnswers v n y = (n ≡ 0) × (a : H) × (b : H) × replies a v (Ok y) b

  -- A reply to the arguments that came, or to a refusal, which leaves the state as it is. Where the
  -- reply is lost, the state may have been asked for one.
  abbrev pub StateSteps : {Q E : Type 0} → (E → Fault → Type 0) → (Y → Q → Reply Plain → Type 0)
      → H → Q → Option (Reply Plain) → H → Type 0
  StateSteps {Q} {E} converts responds a q (Some r) b =
      ((b ≡ a) × (e : E) × Refuses converts e r)
      ⊎ ((v : V) × (y : Y) × replies a v (Ok y) b × responds y q r)
  StateSteps converts responds a q None b = (v : V) × (x : Result Y NoMemory) × replies a v x b

-- the states of a service that keeps such a state in this place
abbrev pub kept_states : {S H Q : Type 0} → (S → H)
    → (H → Q → Option (Reply Plain) → H → Type 0) → States S Q
kept_states {S} {H} place steps = record {
  State = H;
  state = place;
  steps = λ s a q r b. steps a q r b;
}

-- a call whose future is not finished cannot have come before the first poll
pub extracting_open : {L D C V E Y U : Type 0} (R : Rules L D C V E Y)
    (extracts : U → ℕ → Result V E → Type 0) (u : U → Bool)
    → ((f : U) → u f ≡ false → GivesSome (extracts f)) → (f : U) (q : Request L D C)
    → u f ≡ false → (extracting_promise R extracts f q).before 0 → ⊥
extracting_open R extracts u some f q h before =
    some f h (λ n x gives. comes_never R n x (before n x gives))

module _ {X Q : Type 0} (steps : X → Q → Option (Reply Plain) → X → Type 0) where
  -- a run, and one more from where it came to
  pub run_on : (qs : List Q) (os : List OutcomeView) (ps : List Q) (us : List OutcomeView)
      (a b c : X) → Run steps qs os a b → Run steps ps us b c → Run steps (qs ++ ps) (os ++ us) a c
  run_on [] [] ps us a b c h k = subst (λ (x : X). Run steps ps us x c) h k
  run_on (q ∷ qs) (Replied r ∷ os) ps us a b c h k =
      (h.0, h.1, run_on qs os ps us h.0 b c h.2 k)
  run_on (q ∷ qs) (Unfinished ∷ os) ps us a b c h k = run_on qs os ps us a b c h k
  run_on (q ∷ qs) (Lost ∷ os) ps us a b c (inl h) k = inl (run_on qs os ps us a b c h k)
  run_on (q ∷ qs) (Lost ∷ os) ps us a b c (inr h) k =
      inr (h.0, h.1, run_on qs os ps us h.0 b c h.2 k)
  run_on [] (o ∷ os) ps us a b c h k = absurd h
  run_on (q ∷ qs) [] ps us a b c h k = absurd h

  pub reaches_on : (a b c : X) → Reaches steps a b → Reaches steps b c → Reaches steps a c
  reaches_on a b c h k =
      (h.0 ++ k.0, h.1 ++ k.1, run_on h.0 h.1 k.0 k.1 a b c h.2 k.2)
