-- Where the promises allow one answer, the outcome is a function of the exchange and of its number
-- of polls.
use Rattle.std.specs.Prelude.{◌≡◌, ℕ, ◌<◌, List, ◌⊎◌}
use Rattle.web_reply.specs.ResponseBodies.{Plain}
use Rattle.web_reply.specs.Replies.{Reply}
use Rattle.web_worker.specs.Outcomes.{OutcomeView, OutcomeView.NoMemory}
use Rattle.web_worker.specs.Exchanges.{ExchangeView}
use Rattle.web_worker.specs.Setting.{Setting}
use Rattle.web_worker.specs.Flights.{ExchangeBefore, ExchangeGives}
use Rattle.web_worker.specs.PlanOutcomes.{poll_count, EachFrom, outcome_of}

-- an allocation failed, or this is what n polls make of an exchange with this delay and this reply
abbrev pub IsOutcome : ℕ → Reply Plain → ℕ → OutcomeView → Type 0
IsOutcome d r n o = (o ≡ NoMemory) ⊎ (o ≡ outcome_of d r n)

module _ {S L D C V K : Type 0} (s : Setting S L D C V K) where
  -- The exchange has this one delay and this one reply: `Once` of what is promised of it. It is a
  -- record, so that its setting is inferred.
  pub record AnswersOnce (x : ExchangeView S L D C) (d : ℕ) (r : Reply Plain) : Type 0 where
    pub once : (k : ℕ) (p : Reply Plain) → ExchangeGives s x k p → (k ≡ d) × (p ≡ r)
    pub comes : (n : ℕ) → d < n → ExchangeBefore s x n

  -- Whatever the others are, an exchange with one delay and one reply has the outcome that these
  -- and its own number of polls determine.
  abbrev pub DeterministicOutcomes : List ℕ → List (ExchangeView S L D C) → List OutcomeView
      → Type 0
  DeterministicOutcomes plan xs os =
      EachFrom (λ k x o. (d : ℕ) (r : Reply Plain) → AnswersOnce x d r
      → IsOutcome d r (poll_count plan k) o) 0 xs os
