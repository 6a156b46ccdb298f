-- What a whole plan makes of the pool, by the delays of its exchanges.
use Rattle.std.specs.Prelude.{◌≡◌, ℕ, ◌<◌, ◌≤◌, List, [], false, Some, map, slice_get}
use Rattle.std.specs.List.{list_any}
use Rattle.web_request.specs.Pool.{Pool}
use Rattle.web_reply.specs.ResponseBodies.{Plain}
use Rattle.web_reply.specs.Replies.{Reply}
use Rattle.web_worker.specs.Outcomes.{OutcomeView}
use Rattle.web_worker.specs.Outcomes.{OutcomeView.Replied, OutcomeView.Unfinished}
use Rattle.web_worker.specs.Outcomes.{OutcomeView.NoMemory}
use Rattle.web_worker.specs.Exchanges.{ExchangeView}
use Rattle.web_worker.specs.Setting.{Setting}
use Rattle.web_worker.specs.Flights.{ExchangeGives}
use Rattle.web_worker.specs.OutcomeFunctions.{AnswersOnce}
use Rattle.web_worker.specs.PlanOutcomes.{EachFrom, lacks_memory, poll_count}
use Rattle.web_worker.specs.PoolRun.{NotTaken, return_held, run_entries}

-- the pool that keeps these records and made so many
abbrev pub with_records : {L : Type 0} → List ℕ → ℕ → Pool L → Pool L
with_records serials made p = record p { serials = serials; made = made }

-- the pool after a plan for exchanges that wait, where exchange k is answered by the entry that
-- names it for the time `delay k + 1`; records that are then still held come back
abbrev pub pool_after : {L X : Type 0} → (ℕ → ℕ) → Pool L → List X → List ℕ → Pool L
pool_after delay p xs plan =
    let ran = run_entries delay p (map (λ _. NotTaken) xs) [] plan in return_held ran.0 ran.1

module _ {S L D C V K : Type 0} (s : Setting S L D C V K) where
  -- each exchange has this one delay, and one reply
  abbrev pub EachAnswersOnce : List (ExchangeView S L D C) → (ℕ → ℕ) → Type 0
  EachAnswersOnce xs delay =
      (k : ℕ) (x : ExchangeView S L D C) → slice_get xs k ≡ Some x
      → (r : Reply Plain) × AnswersOnce s x (delay k) r

  -- where each exchange has one delay and one reply, and no outcome lacks memory, the pool is the
  -- one that the plan leaves
  abbrev pub IsPoolAfter : List ℕ → List (ExchangeView S L D C) → List OutcomeView → Pool L → Pool L
      → Type 0
  IsPoolAfter plan xs os p q =
      (delay : ℕ → ℕ) → EachAnswersOnce xs delay
      → list_any lacks_memory os ≡ false → q ≡ pool_after delay p xs plan

  -- A delay that agrees with the outcome after n polls: a reply is one that may come after this
  -- delay, and n is greater; where the exchange is unfinished, n is not greater.
  abbrev pub AllowedDelay : ℕ → ExchangeView S L D C → OutcomeView → ℕ → Type 0
  AllowedDelay n x (Replied r) d = (d < n) × ExchangeGives s x d r
  AllowedDelay n x Unfinished d = n ≤ d
  AllowedDelay n x NoMemory d = ⊥

  -- Whatever the promises allow: where no outcome lacks memory, the pool is the one that the plan
  -- leaves with some delays of the exchanges, each of which agrees with the outcome.
  abbrev pub AllowedPool : List ℕ → List (ExchangeView S L D C) → List OutcomeView → Pool L → Pool L
      → Type 0
  AllowedPool plan xs os p q =
      list_any lacks_memory os ≡ false → (delay : ℕ → ℕ)
      × EachFrom (λ k x o. AllowedDelay (poll_count plan k) x o (delay k)) 0 xs os
      × (q ≡ pool_after delay p xs plan)
