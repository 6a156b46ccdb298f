-- What a poll of a flight does to the pool of records.
use Rattle.std.specs.Prelude.{◌≡◌, ℕ, Option, None, Some, ◌⊎◌, ⊤}
use Rattle.web_request.specs.Pool.{Pool, after_give_back, after_start, next_serial}
use Rattle.web_worker.specs.Outcomes.{OutcomeView.NoMemory}
use Rattle.web_worker.specs.Exchanges.{FlightView.Waiting, FlightView.InFlight}
use Rattle.web_worker.specs.Exchanges.{FlightView.Answered}
use Rattle.web_worker.specs.Exchanges.{FlightView}

-- the pool after the record of the old number came back, where none is held any more
abbrev pub after_release : {L : Type 0} → Option ℕ → Option ℕ → Pool L → Pool L
after_release None new p = p
after_release (Some n) None p = after_give_back n p
after_release (Some n) (Some m) p = p

-- a record that is held is the one that was held
abbrev pub SameRecord : Option ℕ → Option ℕ → Type 0
SameRecord old None = ⊤
SameRecord None (Some m) = ⊥
SameRecord (Some n) (Some m) = m ≡ n

-- the record that was held is held still, or came back
abbrev pub HeldOrReturned : {L : Type 0} → Option ℕ → Option ℕ → Pool L → Pool L → Type 0
HeldOrReturned old new p q = (q ≡ after_release old new p) × SameRecord old new

module _ {S L D C K : Type 0} where
  -- the number of the record that a flight holds
  abbrev pub serial_of : FlightView S L D C K → Option ℕ
  serial_of (Waiting x) = None
  serial_of (InFlight h) = Some h.record_of.serial
  serial_of (Answered o) = None

  -- a flight that waits takes the record of the next number, unless there is no memory for it; one
  -- that is answered gives its record back
  abbrev pub TakesOrReturns : FlightView S L D C K → FlightView S L D C K
      → Pool L → Pool L → Type 0
  TakesOrReturns (Waiting x) g p q =
      HeldOrReturned (Some (next_serial p)) (serial_of g) (after_start p) q
      ⊎ ((q ≡ p) × (g ≡ Answered NoMemory))
  TakesOrReturns (InFlight h) g p q = HeldOrReturned (Some h.record_of.serial) (serial_of g) p q
  TakesOrReturns (Answered o) g p q = q ≡ p
