-- The calls of the handler that a whole plan makes.
use Rattle.std.specs.Prelude.{◌≡◌, ◌==◌, ℕ, List, ◌++◌, Option, None, Some}
use Rattle.std.specs.Prelude.{false, if◌then◌else◌, MatchOption, ◌⊎◌, slice_get, take}
use Rattle.std.specs.List.{All, enumerate_from, filter_map, list_any}
use Rattle.std.specs.Option.{option_and_then, option_map}
use Rattle.web_body.specs.Payload.{payload_feed}
use Rattle.web_worker.specs.Outcomes.{OutcomeView, OutcomeView.NoMemory}
use Rattle.web_worker.specs.Exchanges.{ExchangeView}
use Rattle.web_worker.specs.Flights.{ExchangeArguments}
use Rattle.web_worker.specs.Setting.{Setting}
use Rattle.web_worker.specs.PlanOutcomes.{poll_count, EachFrom, lacks_memory}

-- a value that comes after exactly n polls
abbrev pub IsValueAt : {V : Type 0} → ℕ → ℕ → Option V → Type 0
IsValueAt n k (Some v) = k ≡ n
IsValueAt n k None = ⊥

-- an allocation failed at a poll of the exchange of this number
abbrev pub LacksMemory : List OutcomeView → ℕ → Type 0
LacksMemory os k = slice_get os k ≡ Some NoMemory

-- where the handler keeps a list of its calls, it grew by a list with P
abbrev pub AppendsCalls : {V : Type 0} → Option (List V) → Option (List V) → (List V → Type 0)
    → Type 0
AppendsCalls None new P = new ≡ None
AppendsCalls {V} (Some old) new P = (vs : List V) × (new ≡ Some (old ++ vs)) × P vs

-- the call after n polls of an exchange whose arguments come after d polls, as this value or
-- refused
abbrev pub call_at : {V : Type 0} → ℕ → ℕ → Option V → Option V
call_at n d v = if n == d then v else None

-- `args` gives the delay and the value of an exchange's arguments
module _ {X V : Type 0} (args : X → ℕ × Option V) where
  -- the call of entry i, which names exchange k: it comes where the entry is poll number delay + 1
  -- of that exchange
  abbrev pub entry_call : List X → List ℕ → ℕ × ℕ → Option V
  entry_call xs plan (i, k) =
      option_and_then (λ x. call_at (poll_count (take i plan) k) (args x).0 (args x).1)
      (slice_get xs k)

  -- the values that the handler is called with, in their order
  abbrev pub calls_of : List X → List ℕ → List V
  calls_of xs plan = filter_map (λ entry. entry_call xs plan entry) (enumerate_from 0 plan)

module _ {S L D C V K : Type 0} (s : Setting S L D C V K) where
  -- they do no other than come as a value after exactly n polls
  abbrev pub ArgumentsComeAt : ExchangeView S L D C → ℕ → Type 0
  ArgumentsComeAt x n =
      MatchOption (payload_feed s.feed x.body).marks ⊥
      (λ m. (k : ℕ) (y : Option V) → (s.promise (s.request x) m).arguments k y → IsValueAt n k y)

  -- The call of an entry of the plan that names this exchange after n polls of it: one with a
  -- value that may come now, and none only where the arguments need not come now, or where an
  -- allocation failed.
  abbrev pub EntryCall : ℕ → Option (ExchangeView S L D C) → Type 0 → Option V → Type 0
  EntryCall n None lacks call = call ≡ None
  EntryCall n (Some x) lacks (Some v) = ExchangeArguments s x n (Some v)
  EntryCall n (Some x) lacks None = (ArgumentsComeAt x n → ⊥) ⊎ lacks

  -- The values that the handler may be called with, in the order of the entries that call it.
  -- Entry i, which names exchange k, comes after as many polls of it as entries before i name it.
  abbrev pub AllowedCalls : (ℕ → Type 0) → List (ExchangeView S L D C) → List ℕ → List V → Type 0
  AllowedCalls lacks xs plan vs =
      (calls : List (Option V))
      × EachFrom (λ i k call.
      EntryCall (poll_count (take i plan) k) (slice_get xs k) (lacks k) call) 0 plan calls
      × (vs ≡ filter_map (λ call. call) calls)

  -- the marks are stated, and the arguments come after d polls and as this value or refused, and
  -- not otherwise
  abbrev pub ArgumentsOnce : ExchangeView S L D C → ℕ → Option V → Type 0
  ArgumentsOnce x d y =
      MatchOption (payload_feed s.feed x.body).marks ⊥
      (λ m. (k : ℕ) (z : Option V) → (s.promise (s.request x) m).arguments k z
      → (k ≡ d) × (z ≡ y))

  -- Where each exchange's arguments come after one number of polls, as one value or refused, and
  -- no outcome lacks memory, the list of calls is a function of the plan.
  abbrev pub DeterministicCalls : List ℕ → List (ExchangeView S L D C) → List OutcomeView
      → Option (List V) → Option (List V) → Type 0
  DeterministicCalls plan xs os calls_old calls_new =
      (args : ExchangeView S L D C → ℕ × Option V)
      → All (λ x. ArgumentsOnce x (args x).0 (args x).1) xs → list_any lacks_memory os ≡ false
      → calls_new ≡ option_map (λ old. old ++ calls_of args xs plan) calls_old
