-- What a flight may still be answered with, and what one poll makes of it.
use Rattle.std.specs.Prelude.{◌≡◌, ℕ, Bool, true, false, List, Option, None, Some, ⊤, MatchOption}
use Rattle.web_request.specs.Request.{Request}
use Rattle.web_body.specs.Payload.{payload_feed}
use Rattle.web_reply.specs.ResponseBodies.{Plain}
use Rattle.web_reply.specs.Replies.{Reply}
use Rattle.web_worker.specs.Outcomes.{OutcomeView}
use Rattle.web_worker.specs.Outcomes.{OutcomeView.Replied, OutcomeView.Unfinished}
use Rattle.web_worker.specs.Outcomes.{OutcomeView.NoMemory}
use Rattle.web_worker.specs.Exchanges.{ExchangeView, FlightView}
use Rattle.web_worker.specs.Exchanges.{FlightView.Waiting, FlightView.InFlight}
use Rattle.web_worker.specs.Exchanges.{FlightView.Answered}
use Rattle.web_worker.specs.HandlerCalls.{AreOver, Calls}
use Rattle.web_worker.specs.ServicePromises.{Narrows, Promise, one_later}
use Rattle.web_worker.specs.ServiceStates.{MovesTo, States}
use Rattle.web_worker.specs.Setting.{Setting}

module _ {S L D C K : Type 0} where
  -- the outcome of a flight that is answered
  abbrev pub answer_of : FlightView S L D C K → Option OutcomeView
  answer_of (Waiting x) = None
  answer_of (InFlight h) = None
  answer_of (Answered o) = Some o

  -- the outcome of a flight, where no poll follows
  abbrev pub flight_outcome : FlightView S L D C K → OutcomeView
  flight_outcome (Waiting x) = Unfinished
  flight_outcome (InFlight h) = Unfinished
  flight_outcome (Answered o) = o

  -- a flight that is not answered
  abbrev pub is_open : FlightView S L D C K → Bool
  is_open (Waiting x) = true
  is_open (InFlight h) = true
  is_open (Answered o) = false

module _ {S L D C V K : Type 0} (s : Setting S L D C V K) where
  -- where the marks are stated, the exchange may be answered with r after d polls that leave it
  -- unanswered
  abbrev pub ExchangeGives : ExchangeView S L D C → ℕ → Reply Plain → Type 0
  ExchangeGives x d r =
      MatchOption (payload_feed s.feed x.body).marks ⊤ (λ m. (s.promise (s.request x) m).gives d r)

  -- the marks are stated, and every answer comes before that many polls
  abbrev pub ExchangeBefore : ExchangeView S L D C → ℕ → Type 0
  ExchangeBefore x n =
      MatchOption (payload_feed s.feed x.body).marks ⊥ (λ m. (s.promise (s.request x) m).before n)

  -- where the marks are stated, the extractors may come as y, or be refused, after k polls
  abbrev pub ExchangeArguments : ExchangeView S L D C → ℕ → Option V → Type 0
  ExchangeArguments x k y =
      MatchOption (payload_feed s.feed x.body).marks ⊤
      (λ m. (s.promise (s.request x) m).arguments k y)

  -- what is promised of an exchange
  abbrev pub exchange_promise : ExchangeView S L D C → Promise V
  exchange_promise x = record {
    gives = ExchangeGives x;
    before = ExchangeBefore x;
    arguments = ExchangeArguments x;
  }

  -- the same, of a flight; nothing more comes of an answered one
  abbrev pub flight_promise : FlightView S L D C K → Promise V
  flight_promise (Waiting x) = exchange_promise x
  flight_promise (InFlight h) = s.left h.call h.record_of.request
  flight_promise (Answered o) =
      record { gives = λ d r. ⊥; before = λ n. ⊥; arguments = λ k y. ⊥ }

  -- one poll of an unanswered flight of which p is promised: it stays unanswered, what may come
  -- comes one poll later, and something may still come; or what may come now came, or an allocation
  -- failed
  abbrev pub PollResult : Promise V → FlightView S L D C K → Type 0
  PollResult p (Waiting x) = ⊥
  PollResult p (InFlight h) =
      Narrows (s.left h.call h.record_of.request) (one_later p)
      × ((s.left h.call h.record_of.request).before 0 → ⊥)
  PollResult p (Answered (Replied r)) = p.gives 0 r
  PollResult p (Answered Unfinished) = ⊥
  PollResult p (Answered NoMemory) = ⊤

  -- one poll of a flight; an answered one stays as it is
  pub record FlightStep (old new : FlightView S L D C K) : Type 0 where
    pub polled : is_open old ≡ true → PollResult (flight_promise old) new
    pub answered : is_open old ≡ false → new ≡ old

  -- a flight that was polled and is not answered may still be answered
  abbrev pub AnswerMayCome : FlightView S L D C K → Type 0
  AnswerMayCome (Waiting x) = ⊤
  AnswerMayCome (InFlight h) = (s.left h.call h.record_of.request).before 0 → ⊥
  AnswerMayCome (Answered o) = ⊤

  -- the extractors of the flight came, or were refused
  abbrev pub IsPast : FlightView S L D C K → Type 0
  IsPast (Waiting x) = ⊥
  IsPast (InFlight h) = AreOver (s.left h.call h.record_of.request).arguments
  IsPast (Answered o) = ⊤

  -- the call that one poll of a flight makes, and what it does to the extractors
  abbrev pub FlightCalls : FlightView S L D C K → FlightView S L D C K → Option (List V)
      → Option (List V) → Type 0
  FlightCalls f g calls_old calls_new =
      Calls (IsPast f) (flight_promise f).arguments (IsPast g) (flight_outcome g)
      calls_old calls_new

  -- the request of a call under way is this one
  abbrev pub IsFor : Request L D C → FlightView S L D C K → Type 0
  IsFor q (Waiting x) = ⊤
  IsFor q (InFlight h) = h.record_of.request ≡ q
  IsFor q (Answered o) = ⊤

  -- a call that is begun is for the request that the service completed, and its request stays
  abbrev pub SameRequest : FlightView S L D C K → FlightView S L D C K → Type 0
  SameRequest (Waiting x) new = IsFor (s.completed (s.request x)) new
  SameRequest (InFlight h) new = IsFor h.record_of.request new
  SameRequest (Answered o) new = ⊤

  -- what one poll of a flight does to the state of the service T; an answered one leaves it
  abbrev pub FlightMoves : {T : Type 0} → States T (Request L D C)
      → FlightView S L D C K → FlightView S L D C K → T → T → Type 0
  FlightMoves states (Waiting x) new a b =
      MovesTo states (s.completed (s.request x)) (flight_outcome new) a b
  FlightMoves states (InFlight h) new a b =
      MovesTo states h.record_of.request (flight_outcome new) a b
  FlightMoves states (Answered o) new a b = b ≡ a
