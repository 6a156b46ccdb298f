-- What a whole plan makes of the exchanges.
use Rattle.std.specs.Prelude.{◌≡◌, ◌==◌, ℕ, ◌+◌, ◌<◌, List, [], ◌∷◌, Bool, true, false}
use Rattle.std.specs.Prelude.{cond, ◌⊎◌, map, nat_lt}
use Rattle.std.specs.List.{AllZip, enumerate_from}
use Rattle.web_reply.specs.ResponseBodies.{Plain}
use Rattle.web_reply.specs.Replies.{Reply}
use Rattle.web_worker.specs.Outcomes.{OutcomeView}
use Rattle.web_worker.specs.Outcomes.{OutcomeView.Replied, OutcomeView.Unfinished}
use Rattle.web_worker.specs.Outcomes.{OutcomeView.NoMemory}
use Rattle.web_worker.specs.Exchanges.{ExchangeView, FlightView, FlightView.Waiting}
use Rattle.web_worker.specs.Setting.{Setting}
use Rattle.web_worker.specs.Flights.{ExchangeGives, ExchangeBefore}

-- how often the plan names this number
abbrev pub poll_count : List ℕ → ℕ → ℕ
poll_count [] k = 0
poll_count (j ∷ plan) k = cond (j == k) 1 0 + poll_count plan k

-- The lists are as long, and P holds of each place, counted from i on, and of what both hold there.
abbrev pub EachFrom : {X Y : Type 0} → (ℕ → X → Y → Type 0) → ℕ → List X → List Y → Type 0
EachFrom P i xs ys = AllZip (λ e y. P e.0 e.1 y) (enumerate_from i xs) ys

-- what n polls make of an exchange that is answered with r after d polls that leave it unanswered
abbrev pub outcome_of : ℕ → Reply Plain → ℕ → OutcomeView
outcome_of d r n = cond (nat_lt d n) (Replied r) Unfinished

abbrev pub lacks_memory : OutcomeView → Bool
lacks_memory (Replied r) = false
lacks_memory Unfinished = false
lacks_memory NoMemory = true

-- P of the exchanges that the flights hold, where all of them wait
abbrev pub OfWaiting : {S L D C K : Type 0} → List (FlightView S L D C K)
    → (List (ExchangeView S L D C) → Type 0) → Type 0
OfWaiting {S} {L} {D} {C} flights P =
    (xs : List (ExchangeView S L D C)) → flights ≡ map (λ x. Waiting x) xs → P xs

module _ {S L D C V K : Type 0} (s : Setting S L D C V K) where
  -- what n polls may make of the exchange
  abbrev pub AllowedOutcome : ℕ → ExchangeView S L D C → OutcomeView → Type 0
  AllowedOutcome n x (Replied r) = (d : ℕ) × (d < n) × ExchangeGives s x d r
  AllowedOutcome n x Unfinished = (n ≡ 0) ⊎ (ExchangeBefore s x n → ⊥)
  AllowedOutcome n x NoMemory = 0 < n

  -- each outcome is one that the plan's polls of that exchange alone allow
  abbrev pub AllowedOutcomes : List ℕ → List (ExchangeView S L D C) → List OutcomeView → Type 0
  AllowedOutcomes plan xs os = EachFrom (λ k x o. AllowedOutcome (poll_count plan k) x o) 0 xs os
