-- Runs of a list of names.
use Rattle.std.proofs.Common.{◌≡◌, ◌⊎◌, ◌∙◌, ℕ, Bool, true, false, List, [], ◌∷◌, ◌++◌, ap, append_assoc, inl, inr, subst, refl}
use Rattle.std.specs.Prelude.{Option, None, Some, Result, Ok, Err, codes}
use Rattle.std.specs.Str.{bytes_eq}
use Rattle.web_texts.specs.declared.memory.NoMemory.{NoMemory as Wanting}
use Rattle.web_reply.specs.ResponseBodies.{Plain}
use Rattle.web_reply.specs.Replies.{Fault, Reply}
use Rattle.web_reply.specs.Responders.{StatusResponds, text_reply}
use Rattle.web_worker.specs.Outcomes.{OutcomeView}
use Rattle.web_worker.specs.Outcomes.{OutcomeView.Replied, OutcomeView.Unfinished}
use Rattle.web_worker.specs.Outcomes.{OutcomeView.NoMemory}
use Rattle.web_worker.specs.ServiceStates.{Run}
use Rattle.web_routing.specs.StateServices.{StateSteps}
use Rattle.example_handlers.specs.NameLists.{Listed, NamesReply, NamesValue, text_with}

lost : (a name c b : List ℕ) (post : Bool) (text : List ℕ) (status : ℕ) (os : List OutcomeView)
    → NamesValue post a name text status c → Listed os c b → Listed (NoMemory ∷ os) a b
lost a name c b true text status os h rest =
    inr (
      name ++ codes "\n",
      subst (λ (z : List ℕ). Listed os z b) (h.2 ∙ append_assoc a name (codes "\n")) rest,
    )
lost a name c b false text status os h rest =
    inl (subst (λ (z : List ℕ). Listed os z b) h.2 rest)

lost_reply : {T : Type 0} (bytes : T → List ℕ) (a method name c b : List ℕ)
    (x : Result (T × ℕ) Wanting) (os : List OutcomeView)
    → NamesReply bytes a method name x c → Listed os c b → Listed (NoMemory ∷ os) a b
lost_reply bytes a method name c b (Ok y) os h rest =
    lost a name c b (bytes_eq method (codes "POST")) (bytes y.0) y.1 os h rest
lost_reply bytes a method name c b (Err e) os h rest =
    inr (h.0, subst (λ (z : List ℕ). Listed os z b) h.1 rest)

module _ {T Q : Type 0} (bytes : T → List ℕ) where
  abbrev pub NameSteps : List ℕ → Q → Option (Reply Plain) → List ℕ → Type 0
  NameSteps = StateSteps {V = List ℕ × T}
      (λ a v x b. NamesReply bytes a v.0 (bytes v.1) x b) (λ (e : Fault) f. f ≡ e)
      (λ (y : T × ℕ) (q : Q) r. StatusResponds (λ s p u. u ≡ text_reply (bytes s)) y.0 y.1 q r)

  -- a text with a status
  shown : (y : T × ℕ) (q : Q) (r : Reply Plain) (text : List ℕ) (status : ℕ) → bytes y.0 ≡ text
      → y.1 ≡ status
      → StatusResponds (λ s p u. u ≡ text_reply (bytes s)) y.0 y.1 q r
      → r ≡ text_with status text
  shown y q r text status e f (own, is, made) = rw (← e, ← f) (made ∙ ap (λ (o : Reply Plain). record o { head = record (o.head) { status = y.1 } }) is)

  one : (post : Bool) (a name : List ℕ) (y : T × ℕ) (c b : List ℕ) (q : Q) (r : Reply Plain)
      (os : List OutcomeView) → NamesValue post a name (bytes y.0) y.1 c
      → StatusResponds (λ s p u. u ≡ text_reply (bytes s)) y.0 y.1 q r → Listed os c b
      → Listed (Replied r ∷ os) a b
  one true a name y c b q r os h m rest =
      inr (inr (
        name,
        shown y q r name 201 h.0 h.1 m,
        subst (λ (z : List ℕ). Listed os z b) h.2 rest,
      ))
  one false a name y c b q r os h m rest =
      inr (inl (
        shown y q r a 200 h.0 h.1 m,
        subst (λ (z : List ℕ). Listed os z b) h.2 rest,
      ))

  step : (a c b : List ℕ) (q : Q) (r : Reply Plain) (os : List OutcomeView)
      → NameSteps a q (Some r) c → Listed os c b → Listed (Replied r ∷ os) a b
  step a c b q r os (inl h) rest =
      inl ((h.2.0, h.2.2), subst (λ (z : List ℕ). Listed os z b) h.0 rest)
  step a c b q r os (inr h) rest =
      one (bytes_eq h.0.0 (codes "POST")) a (bytes h.0.1) h.1 c b q r os h.2 h.3 rest

  pub listed : (qs : List Q) (os : List OutcomeView) (a b : List ℕ) → Run NameSteps qs os a b
      → Listed os a b
  listed [] [] a b h = h
  listed (q ∷ qs) (Replied r ∷ os) a b h = step a h.0 b q r os h.1 (listed qs os h.0 b h.2)
  listed (q ∷ qs) (Unfinished ∷ os) a b h = listed qs os a b h
  listed (q ∷ qs) (NoMemory ∷ os) a b (inl h) = inl (listed qs os a b h)
  listed (q ∷ qs) (NoMemory ∷ os) a b (inr h) =
      lost_reply bytes a h.1.0.0 (bytes h.1.0.1) h.0 b h.1.1 os h.1.2 (listed qs os h.0 b h.2)
  listed [] (o ∷ os) a b h = absurd h
  listed (q ∷ qs) [] a b h = absurd h
