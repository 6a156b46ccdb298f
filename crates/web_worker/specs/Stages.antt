-- What a stage holds.
use Rattle.std.specs.Prelude.{Option, None, Some}
use Rattle.web_worker.specs.declared.flight.Stage.{Stage}
use Rattle.web_worker.specs.declared.flight.Stage.TheVariants.{Waiting, InFlight, Answered}

module _ {X R K O : Type 0} where
  abbrev pub exchange_in : Stage X R K O → Option X
  exchange_in (Waiting x) = Some x
  exchange_in (InFlight q c) = None
  exchange_in (Answered o) = None

  abbrev pub request_in : Stage X R K O → Option R
  request_in (Waiting x) = None
  request_in (InFlight q c) = Some q
  request_in (Answered o) = None

  abbrev pub answer_in : Stage X R K O → Option O
  answer_in (Waiting x) = None
  answer_in (InFlight q c) = None
  answer_in (Answered o) = Some o
