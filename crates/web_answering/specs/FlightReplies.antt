-- The replies of one flight.
use Rattle.std.specs.Prelude.{◌≡◌, ℕ, Bool, true, not, Option, None, Some}
use Rattle.web_reply.specs.ResponseBodies.{Plain}
use Rattle.web_reply.specs.Replies.{Reply}
use Rattle.web_worker.specs.Exchanges.{FlightView}
use Rattle.web_worker.specs.Flights.{flight_promise, is_open}
use Rattle.web_worker.specs.Outcomes.{OutcomeView}
use Rattle.web_worker.specs.Setting.{Setting}

module _ {S L D C K : Type 0} where
  -- the flight is answered, or there is none
  abbrev pub is_answered : Option (FlightView S L D C K) → Bool
  is_answered None = true
  is_answered (Some f) = not (is_open f)

  -- the flight is answered with this reply
  abbrev pub HasReplied : Option (FlightView S L D C K) → Reply Plain → Type 0
  HasReplied flight r = flight ≡ Some (FlightView.Answered (OutcomeView.Replied r))

module _ {S L D C V K : Type 0} (s : Setting S L D C V K) where
  -- where the flight is open, the promises allow this reply, after some number of polls
  abbrev pub MayReply : Option (FlightView S L D C K) → Reply Plain → Type 0
  MayReply flight r =
      (f : FlightView S L D C K) → flight ≡ Some f → is_open f ≡ true
      → (d : ℕ) × (flight_promise s f).gives d r
