-- What a plan makes of the pool of records, and which exchange holds the record of which number.
use Rattle.std.specs.Prelude.{◌==◌, ℕ, ◌+◌, ◌≤◌, List, [], ◌∷◌, ◌++◌, Option, None, Some}
use Rattle.std.specs.Prelude.{Bool, true, false, cond, nat_lt, slice_get, slice_set}
use Rattle.web_request.specs.Pool.{Pool, after_give_back, after_start, next_serial}
use Rattle.web_worker.specs.Exchanges.{FlightView.Waiting, FlightView.InFlight}
use Rattle.web_worker.specs.Exchanges.{FlightView.Answered}
use Rattle.web_worker.specs.Exchanges.{FlightView}
use Rattle.web_worker.specs.PlanOutcomes.{poll_count}

-- Of the record of an exchange: no entry has named the exchange; it holds the record of this
-- number; or it is answered.
pub data SerialState : Type 0 where
  NotTaken : SerialState
  Taken : ℕ → SerialState
  Returned : SerialState

-- the record of this number comes back where this entry answers its exchange, and else is held
abbrev pub hold_or_return : {L : Type 0} → Pool L → ℕ → Bool → Pool L × SerialState
hold_or_return p x true = (after_give_back x p, Returned)
hold_or_return p x false = (p, Taken x)

-- One entry: an exchange that is named first takes the record kept last, or a new one; an answered
-- one changes nothing.
abbrev pub run_entry : {L : Type 0} → Pool L → SerialState → Bool → Pool L × SerialState
run_entry p NotTaken answers = hold_or_return (after_start p) (next_serial p) answers
run_entry p (Taken x) answers = hold_or_return p x answers
run_entry p Returned answers = (p, Returned)

-- one entry that names an exchange by its number; one that names none changes nothing
abbrev pub run_entry_at : {L : Type 0} → Pool L → List SerialState → ℕ → Bool
    → Option SerialState → Pool L × List SerialState
run_entry_at p ss k answers None = (p, ss)
run_entry_at p ss k answers (Some s) =
    let next = run_entry p s answers in (next.0, slice_set ss k next.1)

-- The entries of a plan, after those of `done`: the entry that is number `delay + 1` of its
-- exchange answers it.
abbrev pub run_entries : {L : Type 0} → (ℕ → ℕ) → Pool L → List SerialState
    → List ℕ → List ℕ → Pool L × List SerialState
run_entries delay p ss done [] = (p, ss)
run_entries delay p ss done (k ∷ rest) =
    let next = run_entry_at p ss k (poll_count done k == delay k) (slice_get ss k) in
    run_entries delay next.0 next.1 (done ++ k ∷ []) rest

-- what is still held comes back, in the order of the exchanges
abbrev pub return_held : {L : Type 0} → Pool L → List SerialState → Pool L
return_held p [] = p
return_held p (NotTaken ∷ ss) = return_held p ss
return_held p (Taken x ∷ ss) = return_held (after_give_back x p) ss
return_held p (Returned ∷ ss) = return_held p ss

-- of the record of a flight
abbrev pub serial_state : {S L D C K : Type 0} → FlightView S L D C K → SerialState
serial_state (Waiting x) = NotTaken
serial_state (InFlight h) = Taken h.record_of.serial
serial_state (Answered o) = Returned

abbrev pub taken_count : SerialState → ℕ → ℕ
taken_count NotTaken y = 0
taken_count (Taken x) y = cond (x == y) 1 0
taken_count Returned y = 0

-- how many exchanges hold the record of this number
abbrev pub holding_count : List SerialState → ℕ → ℕ
holding_count [] y = 0
holding_count (s ∷ ss) y = taken_count s y + holding_count ss y

-- each number that was made stands at most once, in the pool or with an exchange, and no other
-- number stands anywhere
abbrev pub DistinctSerials : {L : Type 0} → Pool L → List SerialState → Type 0
DistinctSerials p ss =
    (y : ℕ) → poll_count p.serials y + holding_count ss y ≤ cond (nat_lt y p.made) 1 0
