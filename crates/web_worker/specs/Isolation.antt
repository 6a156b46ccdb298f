-- What other exchanges do is not seen.
use Rattle.std.specs.Prelude.{◌≡◌, ℕ, ◌⊎◌}
use Rattle.web_reply.specs.ResponseBodies.{Plain}
use Rattle.web_reply.specs.Replies.{Reply}
use Rattle.web_worker.specs.Outcomes.{OutcomeView, OutcomeView.NoMemory}
use Rattle.web_worker.specs.Exchanges.{ExchangeView}
use Rattle.web_worker.specs.Setting.{Setting}
use Rattle.web_worker.specs.OutcomeFunctions.{AnswersOnce}
use Rattle.web_worker.specs.PlanOutcomes.{AllowedOutcome}

-- an allocation failed in one of the runs, or the outcomes are equal
abbrev pub SameOutcome : OutcomeView → OutcomeView → Type 0
SameOutcome o p = (o ≡ NoMemory) ⊎ ((p ≡ NoMemory) ⊎ (o ≡ p))

-- An exchange that has one delay and one reply in the first setting has the same outcome in two
-- runs, one in each setting, which poll it equally often, whatever else they serve.
abbrev pub SameInBothRuns : {S L D C V K : Type 0}
    → Setting S L D C V K → Setting S L D C V K → Type 0
SameInBothRuns {S} {L} {D} {C} first second =
    (x : ExchangeView S L D C) (d : ℕ) (r : Reply Plain) → AnswersOnce first x d r
    → (polls : ℕ) (o p : OutcomeView)
    → AllowedOutcome first polls x o → AllowedOutcome second polls x p → SameOutcome o p
