-- Which call of the handler one poll makes.
use Rattle.std.specs.Prelude.{◌≡◌, ℕ, List, [], ◌∷◌, ◌++◌, Option, None, Some, ⊤, ◌⊎◌}
use Rattle.web_worker.specs.Outcomes.{OutcomeView}
use Rattle.web_worker.specs.Outcomes.{OutcomeView.Replied, OutcomeView.Unfinished}
use Rattle.web_worker.specs.Outcomes.{OutcomeView.NoMemory}

-- a value that is there after no poll
abbrev pub IsValueNow : {V : Type 0} → ℕ → Option V → Type 0
IsValueNow k (Some v) = k ≡ 0
IsValueNow k None = ⊥

-- the list of calls, where there is one, after this call or none
abbrev pub CallsAre : {V : Type 0} → Option (List V) → Option V → Option (List V) → Type 0
CallsAre None call new = new ≡ None
CallsAre (Some old) None new = new ≡ Some old
CallsAre (Some old) (Some v) new = new ≡ Some (old ++ v ∷ [])

-- no extractors are to come
abbrev pub AreOver : {V : Type 0} → (ℕ → Option V → Type 0) → Type 0
AreOver {V} arguments = (k : ℕ) (y : Option V) → arguments k y → ⊥

-- as what the extractors may come, and whether they came before
module _ {V : Type 0} (over : Type 0) (arguments : ℕ → Option V → Type 0) where
  -- the extractors are still to come, and do no other than come as a value at this poll
  abbrev pub ComeNow : Type 0
  ComeNow = (over → ⊥) × ((k : ℕ) (y : Option V) → arguments k y → IsValueNow k y)

  -- a call is with what the extractors may come as, and there is none only where they need not
  -- come, or where an allocation failed
  abbrev pub IsCall : OutcomeView → Option V → Type 0
  IsCall o (Some v) = arguments 0 (Some v)
  IsCall o None = (ComeNow → ⊥) ⊎ (o ≡ NoMemory)

  -- they came at this poll, or before it
  abbrev pub HaveCome : Type 0
  HaveCome = over ⊎ ((y : Option V) × arguments 0 y)

  -- a reply comes after the extractors, and they are over only once they came
  abbrev pub ArgumentsMove : Type 0 → OutcomeView → Type 0
  ArgumentsMove over_new (Replied r) = HaveCome
  ArgumentsMove over_new Unfinished = over_new → HaveCome
  ArgumentsMove over_new NoMemory = ⊤

  -- the call that one poll makes, and what it does to the extractors
  abbrev pub Calls : Type 0 → OutcomeView → Option (List V) → Option (List V) → Type 0
  Calls over_new o calls_old calls_new =
      (call : Option V) × CallsAre calls_old call calls_new × IsCall o call
      × ArgumentsMove over_new o
