-- From what the promises allow to the one outcome of each exchange.
use Rattle.std.proofs.Common.{◌≡◌, ℕ, ◌+◌, ◌<◌, Bool, true, false, cond, List, [], ◌∷◌, nat_lt, refl, ap, arith, inl, inr}
use Rattle.std.specs.List.{All}
use Rattle.std.proofs.lemmas.List.Elements.{All-head, All-tail}
use Rattle.std.proofs.lemmas.Bool.{ltb-true}
use Rattle.std.proofs.lemmas.Bool.Decides.{nat_tests}
use Rattle.web_reply.specs.ResponseBodies.{Plain}
use Rattle.web_reply.specs.Replies.{Reply}
use Rattle.web_worker.specs.Outcomes.{OutcomeView, OutcomeView.Replied, OutcomeView.Unfinished, OutcomeView.NoMemory}
use Rattle.web_worker.specs.Exchanges.{ExchangeView}
use Rattle.web_worker.specs.Setting.{Setting}
use Rattle.web_worker.specs.OutcomeFunctions.{AnswersOnce, IsOutcome, DeterministicOutcomes}
use Rattle.web_worker.specs.PlanOutcomes.{poll_count, EachFrom, outcome_of, AllowedOutcome, AllowedOutcomes}
use Rattle.web_worker.proofs.NumberedPairsLemmas.{each_same}

module _ (d : ℕ) (r : Reply Plain) where
  replied : (n k : ℕ) (p : Reply Plain) → k < n → k ≡ d → p ≡ r → Replied p ≡ outcome_of d r n
  replied n k p l e f = let is : nat_lt d n ≡ true = grind (arith, nat_tests) in rw is (ap Replied f)

  unfinished : (n : ℕ) → (d < n → ⊥) → (b : Bool) → nat_lt d n ≡ b → Unfinished ≡ cond b (Replied r) Unfinished
  unfinished n none true e = let l : d < n = ltb-true d n e in absurd (none l)
  unfinished n none false e = refl

  never : (n : ℕ) → n ≡ 0 → Unfinished ≡ outcome_of d r n
  never n e = let is : nat_lt d n ≡ false = grind (arith, nat_tests) in rw is refl

module _ {S L D C V K : Type 0} (s : Setting S L D C V K) where
  -- what is allowed is the one outcome
  pub outcome_is : (x : ExchangeView S L D C) (d : ℕ) (r : Reply Plain) → AnswersOnce s x d r → (n : ℕ) (o : OutcomeView)
      → AllowedOutcome s n x o → IsOutcome d r n o
  outcome_is x d r a n (Replied p) h = let e = a.once h.0 p h.2 in inr (replied d r n h.0 p h.1 e.0 e.1)
  outcome_is x d r a n Unfinished (inl e) = inr (never d r n e)
  outcome_is x d r a n Unfinished (inr none) = inr (unfinished d r n (λ l. none (a.comes n l)) (nat_lt d n) refl)
  outcome_is x d r a n NoMemory h = inl refl

  pub deterministic_outcomes : (plan : List ℕ) (xs : List (ExchangeView S L D C)) (os : List OutcomeView)
      → AllowedOutcomes s plan xs os → DeterministicOutcomes s plan xs os
  deterministic_outcomes plan xs os h =
      each_same (λ k x o. AllowedOutcome s (poll_count plan k) x o)
      (λ k x o. (d : ℕ) (r : Reply Plain) → AnswersOnce s x d r → IsOutcome d r (poll_count plan k) o) 0 xs os
      (λ k x o l m a d r once. outcome_is x d r once (poll_count plan k) o a) h

  -- where functions give the delay and the reply of all exchanges, they give all outcomes
  module _ (delay_of : ExchangeView S L D C → ℕ) (reply_of : ExchangeView S L D C → Reply Plain) where
    from : (plan : List ℕ) (i : ℕ) (xs : List (ExchangeView S L D C)) (os : List OutcomeView)
        → EachFrom (λ k x o. (d : ℕ) (r : Reply Plain) → AnswersOnce s x d r → IsOutcome d r (poll_count plan k) o) i xs os
        → All (λ x. AnswersOnce s x (delay_of x) (reply_of x)) xs
        → EachFrom (λ k x o. IsOutcome (delay_of x) (reply_of x) (poll_count plan k) o) i xs os
    from plan i [] [] h a = tt
    from plan i (x ∷ xs) (o ∷ os) h a = (
      h.0 (delay_of x) (reply_of x) (All-head (λ (z : ExchangeView S L D C). AnswersOnce s z (delay_of z) (reply_of z)) x xs a),
      from plan (i + 1) xs os h.1 (All-tail (λ (z : ExchangeView S L D C). AnswersOnce s z (delay_of z) (reply_of z)) x xs a),
    )
    from plan i [] (o ∷ os) h a = absurd h
    from plan i (x ∷ xs) [] h a = absurd h

    pub outcomes_by_functions : (plan : List ℕ) (xs : List (ExchangeView S L D C)) (os : List OutcomeView)
        → DeterministicOutcomes s plan xs os → All (λ x. AnswersOnce s x (delay_of x) (reply_of x)) xs
        → EachFrom (λ k x o. IsOutcome (delay_of x) (reply_of x) (poll_count plan k) o) 0 xs os
    outcomes_by_functions plan xs os h a = from plan 0 xs os h a
