-- One poll of one flight among others.
use Rattle.std.specs.Prelude.{◌≡◌, ℕ, zero, suc, true, false, List, ⊤, MatchOption, ◌⊎◌}
use Rattle.std.specs.Prelude.{Option, Some, slice_get, slice_set}
use Rattle.web_request.specs.Pool.{Pool}
use Rattle.web_request.specs.Request.{Request}
use Rattle.web_reply.specs.ResponseBodies.{Plain}
use Rattle.web_reply.specs.Replies.{Reply}
use Rattle.web_worker.specs.Outcomes.{OutcomeView.Replied, OutcomeView.Unfinished}
use Rattle.web_worker.specs.Outcomes.{OutcomeView.NoMemory}
use Rattle.web_worker.specs.Exchanges.{ExchangeView, FlightView}
use Rattle.web_worker.specs.Exchanges.{FlightView.Waiting, FlightView.InFlight}
use Rattle.web_worker.specs.Exchanges.{FlightView.Answered}
use Rattle.web_worker.specs.Setting.{Setting}
use Rattle.web_worker.specs.Flights.{FlightCalls, FlightMoves, FlightStep, IsFor, IsPast}
use Rattle.web_worker.specs.Flights.{PollResult, SameRequest, exchange_promise, flight_outcome}
use Rattle.web_worker.specs.Flights.{flight_promise, is_open}
use Rattle.web_worker.specs.PoolSteps.{TakesOrReturns}
use Rattle.web_worker.specs.HandlerCalls.{Calls, CallsAre}
use Rattle.web_worker.specs.ServicePromises.{Promise}
use Rattle.web_worker.specs.ServiceStates.{States}

-- it names no flight, or an answered one
abbrev pub IsIdle : {S L D C K : Type 0} → Option (FlightView S L D C K) → Type 0
IsIdle f = MatchOption f ⊤ (λ g. is_open g ≡ false)

module _ {S L D C V K : Type 0} (s : Setting S L D C V K) where
  -- One poll of a call for this request, of which p is promised, and whose extractors are over or
  -- not.
  pub record CallPoll
      (q : Request L D C) (over : Type 0) (p : Promise V) (new : FlightView S L D C K)
      (calls_old calls_new : Option (List V)) : Type 0 where
    pub step : PollResult s p new
    pub calls : Calls over p.arguments (IsPast s new) (flight_outcome new) calls_old calls_new
    pub request : IsFor s q new

  -- the first poll of an exchange that has a record
  abbrev pub BeginsFlight : ExchangeView S L D C → FlightView S L D C K → Option (List V)
      → Option (List V) → Type 0
  BeginsFlight x new calls_old calls_new =
      CallPoll (s.completed (s.request x)) ⊥ (exchange_promise s x) new calls_old calls_new

  -- what one poll of a flight does to it, to the pool, and to the list of calls
  pub record FlightPoll
      (f g : FlightView S L D C K)
      (p q : Pool L)
      (calls_old calls_new : Option (List V)) : Type 0 where
    pub step : FlightStep s f g
    pub moves : TakesOrReturns f g p q
    pub calls : FlightCalls s f g calls_old calls_new
    pub request : SameRequest s f g

  -- nothing changed
  pub record NoChange
      (old new : List (FlightView S L D C K))
      (p q : Pool L)
      (calls_old calls_new : Option (List V)) : Type 0 where
    pub flights : new ≡ old
    pub pool : q ≡ p
    pub calls : calls_new ≡ calls_old

  -- the flight of this number makes its step, and the others stay; a number that names no flight
  -- changes nothing
  abbrev pub PollsAt : ℕ → List (FlightView S L D C K) → List (FlightView S L D C K)
      → Pool L → Pool L → Option (List V) → Option (List V) → Type 0
  PollsAt k old new p q calls_old calls_new =
      MatchOption (slice_get old k) (NoChange old new p q calls_old calls_new)
      (λ f. (g : FlightView S L D C K) × (new ≡ slice_set old k g)
      × FlightPoll f g p q calls_old calls_new)

  -- all that may come of the flight is r, after d polls that leave it unanswered
  pub record HasOneReply (f : FlightView S L D C K) (d : ℕ) (r : Reply Plain) : Type 0 where
    pub once : (k : ℕ) (p : Reply Plain) → (flight_promise s f).gives k p → (k ≡ d) × (p ≡ r)
    pub comes : (flight_promise s f).before (suc d)

  -- its delay falls by one with the same reply
  abbrev pub FallsByOne : ℕ → Reply Plain → FlightView S L D C K → Type 0
  FallsByOne d r f = (e : ℕ) × (d ≡ suc e) × HasOneReply f e r

  -- its delay falls by one with the same reply, or was zero and the reply came, or an allocation
  -- failed
  abbrev pub Effect : ℕ → Reply Plain → FlightView S L D C K → Type 0
  Effect d r (Waiting x) = ⊥
  Effect d r (InFlight h) = FallsByOne d r (InFlight h)
  Effect d r (Answered (Replied p)) = (d ≡ 0) × (p ≡ r)
  Effect d r (Answered Unfinished) = ⊥
  Effect d r (Answered NoMemory) = ⊤

  -- the effect of a poll of an unanswered flight, where its promises allow one delay and one reply
  abbrev pub EffectAt : ℕ → List (FlightView S L D C K) → List (FlightView S L D C K) → Type 0
  EffectAt k old new =
      (f : FlightView S L D C K) (d : ℕ) (r : Reply Plain) → slice_get old k ≡ Some f
      → is_open f ≡ true → HasOneReply f d r
      → (g : FlightView S L D C K) × (slice_get new k ≡ Some g) × Effect d r g

  -- the extractors are still to come, after d polls and as v, and not otherwise
  pub record FlightArgumentsOnce (f : FlightView S L D C K) (d : ℕ) (v : V) : Type 0 where
    pub to_come : IsPast s f → ⊥
    pub once : (k : ℕ) (y : Option V) → (flight_promise s f).arguments k y
        → (k ≡ d) × (y ≡ Some v)

  -- Where the arguments come after d polls, as v: the handler is called with v where d is zero, and
  -- else it is not called and the delay of the arguments falls by one; or an allocation failed.
  abbrev pub CallEffect : ℕ → V → FlightView S L D C K → Option (List V) → Option (List V)
      → Type 0
  CallEffect zero v g calls_old calls_new =
      CallsAre calls_old (Some v) calls_new
      ⊎ ((g ≡ Answered NoMemory) × (calls_new ≡ calls_old))
  CallEffect (suc d) v g calls_old calls_new =
      (calls_new ≡ calls_old) × (FlightArgumentsOnce g d v ⊎ (g ≡ Answered NoMemory))

  -- the call of a poll of a flight whose arguments have one delay and one value
  abbrev pub CallEffectAt : ℕ → List (FlightView S L D C K) → List (FlightView S L D C K)
      → Option (List V) → Option (List V) → Type 0
  CallEffectAt k old new calls_old calls_new =
      (f : FlightView S L D C K) (d : ℕ) (v : V) → slice_get old k ≡ Some f
      → FlightArgumentsOnce f d v
      → (g : FlightView S L D C K) × (slice_get new k ≡ Some g)
      × CallEffect d v g calls_old calls_new

  -- the poll of the flight of this number moves the state of the service T; a number that names no
  -- flight leaves it
  abbrev pub StateAt : {T : Type 0} → States T (Request L D C) → ℕ
      → List (FlightView S L D C K) → List (FlightView S L D C K) → T → T → Type 0
  StateAt states k old new a b =
      MatchOption (slice_get old k) (b ≡ a)
      (λ f. (g : FlightView S L D C K) × (slice_get new k ≡ Some g) × FlightMoves s states f g a b)
