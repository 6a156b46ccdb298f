-- One poll of a flight, made of those of its service.
use Rattle.std.proofs.Common.{◌≡◌, ◌∙◌, ℕ, suc, ap, refl, subst, sym, inl, inr}
use Rattle.std.specs.Prelude.{true, false, Option, None, Some, List, ⊤, MatchOption}
use Rattle.std.specs.Prelude.{slice_get, slice_set}
use Rattle.web_request.specs.declared.source.Mark.{Mark}
use Rattle.web_request.specs.Feed.{Feed}
use Rattle.web_request.specs.Pool.{Pool, after_start, next_serial}
use Rattle.web_request.specs.Request.{Record, Request}
use Rattle.web_body.specs.declared.payload.Payload.{Payload}
use Rattle.web_body.specs.Payload.{payload_feed}
use Rattle.web_reply.specs.ResponseBodies.{Plain}
use Rattle.web_reply.specs.Replies.{Reply}
use Rattle.web_worker.specs.Exchanges.{CallView, ExchangeView, FlightView}
use Rattle.web_worker.specs.Exchanges.{FlightView.Waiting, FlightView.InFlight}
use Rattle.web_worker.specs.Exchanges.{FlightView.Answered}
use Rattle.web_worker.specs.Flights.{FlightCalls, IsFor, IsPast, PollResult}
use Rattle.web_worker.specs.Flights.{SameRequest, exchange_promise, flight_outcome}
use Rattle.web_worker.specs.Flights.{flight_promise}
use Rattle.web_worker.specs.HandlerCalls.{AreOver, Calls, ComeNow, HaveCome, IsCall}
use Rattle.web_worker.specs.HandlerCalls.{ArgumentsMove}
use Rattle.web_worker.specs.Outcomes.{OutcomeView, OutcomeView.Replied, OutcomeView.Unfinished}
use Rattle.web_worker.specs.Outcomes.{OutcomeView.NoMemory, is_unfinished}
use Rattle.web_worker.specs.PollOne.{BeginsFlight, CallPoll, FlightPoll, NoChange, PollsAt}
use Rattle.web_worker.specs.PoolSteps.{HeldOrReturned, serial_of}
use Rattle.web_worker.specs.ServicePromises.{Begins, Narrows, OnUnfinished, Polls, Promise}
use Rattle.web_worker.specs.ServicePromises.{SameService, one_later}
use Rattle.web_worker.specs.Setting.{Setting, setting_with}
use Rattle.web_worker.proofs.HandlerServiceLemmas.{calls_failed, calls_none}

-- ---- calls over relations that are as wide

module _ {V : Type 0} (over as_over over_new as_over_new : Type 0)
    (arguments as_arguments : ℕ → Option V → Type 0) (to : over → as_over)
    (on : (k : ℕ) (y : Option V) → arguments k y → as_arguments k y)
    (back : as_over_new → over_new) where
  have_come : HaveCome over arguments → HaveCome as_over as_arguments
  have_come (inl h) = inl (to h)
  have_come (inr h) = inr (h.0, on 0 h.0 h.1)

  come_now : ComeNow as_over as_arguments → ComeNow over arguments
  come_now c = (λ h. c.0 (to h), λ k y a. c.1 k y (on k y a))

  call_as : (o : OutcomeView) (call : Option V) → IsCall over arguments o call
      → IsCall as_over as_arguments o call
  call_as o (Some v) a = on 0 (Some v) a
  call_as o None (inl n) = inl (λ c. n (come_now c))
  call_as o None (inr n) = inr n

  move_as : (o : OutcomeView) → ArgumentsMove over arguments over_new o
      → ArgumentsMove as_over as_arguments as_over_new o
  move_as (Replied r) h = have_come h
  move_as Unfinished h = λ new. have_come (h (back new))
  move_as NoMemory h = tt

  pub calls_as : (o : OutcomeView) (calls_old calls_new : Option (List V))
      → Calls over arguments over_new o calls_old calls_new
      → Calls as_over as_arguments as_over_new o calls_old calls_new
  calls_as o calls_old calls_new c = (c.0, c.1, call_as o c.0 c.2, move_as o c.3)

pub narrows_on : {V : Type 0} (small mid large : Promise V) → Narrows small mid → Narrows mid large
    → Narrows small large
narrows_on small mid large n o = record {
  gives = λ d r a. o.gives d r (n.gives d r a);
  before = λ k b. n.before k (o.before k b);
  arguments = λ k y a. o.arguments k y (n.arguments k y a);
}

pub narrows_itself : {V : Type 0} (p : Promise V) → Narrows p p
narrows_itself p = record { gives = λ d r a. a; before = λ k b. b; arguments = λ k y a. a }

pub unfinished_is : (o : OutcomeView) → is_unfinished o ≡ true → o ≡ Unfinished
unfinished_is (Replied r) e = absurd cc
unfinished_is Unfinished e = refl
unfinished_is NoMemory e = absurd cc

pub on_unfinished : (o : OutcomeView) (P : Type 0) → is_unfinished o ≡ true → OnUnfinished o P → P
on_unfinished (Replied r) P e h = absurd cc
on_unfinished Unfinished P e h = h
on_unfinished NoMemory P e h = absurd cc

-- ---- one poll of a call

module _ {S L D C V K : Type 0} (s : Setting S L D C V K) (q : Record L D C) (c d : K)
    (calls_old calls_new : Option (List V)) where
  abbrev over : Type 0
  over = AreOver (s.left c q.request).arguments

  abbrev asked : OutcomeView → Type 0
  asked o = Calls over (s.left c q.request).arguments (AreOver (s.left d q.request).arguments) o
      calls_old calls_new

  -- it has no answer yet
  pub call_stays : (o : OutcomeView) → is_unfinished o ≡ true
      → Polls o (s.left c q.request) (s.left d q.request) → ((s.left d q.request).before 0 → ⊥)
      → asked o
      → CallPoll s q.request over (s.left c q.request)
      (InFlight (record { record_of = q; call = d })) calls_old calls_new
  call_stays (Replied r) e p still calls = absurd cc
  call_stays Unfinished e p still calls = record {
    step = (p, still);
    calls = calls;
    request = refl;
  }
  call_stays NoMemory e p still calls = absurd cc

  -- it is answered
  pub call_ends : (o : OutcomeView) → is_unfinished o ≡ false
      → Polls o (s.left c q.request) (s.left d q.request) → asked o
      → CallPoll s q.request over (s.left c q.request) (Answered o) calls_old calls_new
  call_ends (Replied r) e p calls = record { step = p; calls = calls; request = tt }
  call_ends Unfinished e p calls = absurd cc
  call_ends NoMemory e p calls = record { step = tt; calls = calls; request = tt }

-- ---- flights

module _ {S L D C V K : Type 0} (s : Setting S L D C V K) where
  -- a call under way
  pub flight_polled : (h : CallView L D C K) (new : FlightView S L D C K) (p q : Pool L)
      (calls_old calls_new : Option (List V))
      → HeldOrReturned (Some h.record_of.serial) (serial_of new) p q
      → CallPoll s h.record_of.request (AreOver (s.left h.call h.record_of.request).arguments)
      (s.left h.call h.record_of.request) new calls_old calls_new
      → FlightPoll s (InFlight h) new p q calls_old calls_new
  flight_polled h new p q calls_old calls_new moves poll = record {
    step = record { polled = λ e. poll.step; answered = λ e. absurd cc };
    moves = moves;
    calls = poll.calls;
    request = poll.request;
  }

  -- the first poll
  pub flight_begun : (x : ExchangeView S L D C) (new : FlightView S L D C K) (p q : Pool L)
      (calls_old calls_new : Option (List V))
      → HeldOrReturned (Some (next_serial p)) (serial_of new) (after_start p) q
      → BeginsFlight s x new calls_old calls_new
      → FlightPoll s (Waiting x) new p q calls_old calls_new
  flight_begun x new p q calls_old calls_new moves poll = record {
    step = record { polled = λ e. poll.step; answered = λ e. absurd cc };
    moves = inl moves;
    calls = poll.calls;
    request = poll.request;
  }

  -- one for which there was no record
  pub flight_lost : (x : ExchangeView S L D C) (p : Pool L) (calls : Option (List V))
      → FlightPoll s (Waiting x) (Answered NoMemory) p p calls calls
  flight_lost x p calls = record {
    step = record { polled = λ e. tt; answered = λ e. absurd cc };
    moves = inr (refl, refl);
    calls = calls_failed ⊥ (exchange_promise s x).arguments ⊤ calls;
    request = tt;
  }

  -- one for which there was no call
  pub begin_lost : (x : ExchangeView S L D C) (calls_old calls_new : Option (List V))
      → calls_new ≡ calls_old → BeginsFlight s x (Answered NoMemory) calls_old calls_new
  begin_lost x calls_old calls_new e = rw e (record {
    step = tt;
    calls = calls_failed ⊥ (exchange_promise s x).arguments ⊤ calls_old;
    request = tt;
  })

  answered_calls : (o : OutcomeView) (calls : Option (List V))
      → FlightCalls s (Answered o) (Answered o) calls calls
  answered_calls (Replied r) calls = (None, calls_none calls, inl (λ c. c.0 tt), inl tt)
  answered_calls Unfinished calls = (None, calls_none calls, inl (λ c. c.0 tt), λ over. inl tt)
  answered_calls NoMemory calls = (None, calls_none calls, inl (λ c. c.0 tt), tt)

  -- an answered one
  pub flight_rests : (o : OutcomeView) (p : Pool L) (calls : Option (List V))
      → FlightPoll s (Answered o) (Answered o) p p calls calls
  flight_rests o p calls = record {
    step = record { polled = λ e. absurd cc; answered = λ e. refl };
    moves = refl;
    calls = answered_calls o calls;
    request = tt;
  }

-- ---- what promises the same

module _ {S L D C V K : Type 0} (feed : S → Feed) (request : ExchangeView S L D C → Request L D C)
    (c_old c_mid : Request L D C → Request L D C)
    (p_old p_mid : Request L D C → List Mark → Promise V)
    (l_old l_mid : K → Request L D C → Promise V)
    (same : SameService c_old c_mid p_old p_mid l_old l_mid) where
  abbrev before : Setting S L D C V K
  before = setting_with c_old p_old l_old feed request

  abbrev now : Setting S L D C V K
  now = setting_with c_mid p_mid l_mid feed request

  pub result_as : (p large : Promise V) → Narrows p large → (new : FlightView S L D C K)
      → PollResult now p new → PollResult before large new
  result_as p large n (Waiting x) r = r
  result_as p large n (InFlight h) r = (
    narrows_on (l_old h.call h.record_of.request) (l_mid h.call h.record_of.request)
        (one_later large) (same.calls_back h.call h.record_of.request)
        (narrows_on (l_mid h.call h.record_of.request) (one_later p) (one_later large) r.0
        (record {
          gives = λ d z a. n.gives (suc d) z a;
          before = λ k b. n.before (suc k) b;
          arguments = λ k y a. n.arguments (suc k) y a;
        })),
    λ b. r.1 ((same.calls h.call h.record_of.request).before 0 b),
  )
  result_as p large n (Answered (Replied r)) g = n.gives 0 r g
  result_as p large n (Answered Unfinished) g = g
  result_as p large n (Answered NoMemory) g = g

  past_as : (new : FlightView S L D C K) → IsPast before new → IsPast now new
  past_as (Waiting x) h = h
  past_as (InFlight f) h = λ k y a.
      h k y ((same.calls f.call f.record_of.request).arguments k y a)
  past_as (Answered o) h = h

  past_back : (new : FlightView S L D C K) → IsPast now new → IsPast before new
  past_back (Waiting x) h = h
  past_back (InFlight f) h = λ k y a.
      h k y ((same.calls_back f.call f.record_of.request).arguments k y a)
  past_back (Answered o) h = h

  for_as : (q : Request L D C) (new : FlightView S L D C K) → IsFor now q new
      → IsFor before q new
  for_as q (Waiting x) h = h
  for_as q (InFlight f) h = h
  for_as q (Answered o) h = h

  -- the first poll of a call that was just begun
  pub flight_begins : (x : ExchangeView S L D C) (body : Payload S) (q r : Request L D C) (c : K)
      (new : FlightView S L D C K) (calls_old calls_mid calls_new : Option (List V))
      → q ≡ request x → x.body ≡ body → r ≡ c_old q
      → Begins (p_old q) (payload_feed feed body).marks (l_old c r)
      → (AreOver (l_old c r).arguments → ⊥) → calls_mid ≡ calls_old
      → CallPoll now r (AreOver (l_mid c r).arguments) (l_mid c r) new calls_mid calls_new
      → BeginsFlight before x new calls_old calls_new
  flight_begins x body q r c new calls_old calls_mid calls_new is at completed begins to_come none poll =
      let here : Begins (p_old (request x)) (payload_feed feed x.body).marks (l_old c r) =
      subst (λ (z : Request L D C). Begins (p_old z) (payload_feed feed x.body).marks (l_old c r)) is
      (subst (λ (b : Payload S). Begins (p_old q) (payload_feed feed b).marks (l_old c r)) (sym at)
      begins) in
      let narrow = narrows_on (l_mid c r) (l_old c r) (exchange_promise before x)
      (same.calls c r) (stated (payload_feed feed x.body).marks here) in
      record {
        step = result_as (l_mid c r) (exchange_promise before x) narrow new poll.step;
        calls = subst (λ (z : Option (List V)). Calls ⊥ (exchange_promise before x).arguments
            (IsPast before new) (flight_outcome new) z calls_new) none
            (calls_as (AreOver (l_mid c r).arguments) ⊥ (IsPast now new) (IsPast before new)
            (l_mid c r).arguments (exchange_promise before x).arguments
            (λ h. to_come (λ k y a. h k y ((same.calls_back c r).arguments k y a)))
            narrow.arguments (past_as new) (flight_outcome new) calls_mid calls_new poll.calls);
        request = subst (λ (z : Request L D C). IsFor before z new)
            (completed ∙ ap c_old is) (for_as r new poll.request);
      }
    where
      stated : (o : Option (List Mark)) → Begins (p_old (request x)) o (l_old c r)
          → Narrows (l_old c r) (record {
            gives = λ d z. MatchOption o ⊤ (λ m. (p_old (request x) m).gives d z);
            before = λ k. MatchOption o ⊥ (λ m. (p_old (request x) m).before k);
            arguments = λ k y. MatchOption o ⊤
                (λ m. (p_old (request x) m).arguments k y);
          })
      stated None b = record {
        gives = λ d z a. tt;
        before = λ k h. absurd h;
        arguments = λ k y a. tt;
      }
      stated (Some m) b = record {
        gives = λ d z a. b.gives d z a;
        before = λ k h. b.before k h;
        arguments = λ k y a. b.arguments k y a;
      }

  exchange_as : (x : ExchangeView S L D C) (o : Option (List Mark))
      → ((d : ℕ) (r : Reply Plain) → MatchOption o ⊤ (λ m. (p_mid (request x) m).gives d r)
      → MatchOption o ⊤ (λ m. (p_old (request x) m).gives d r))
      × ((k : ℕ) → MatchOption o ⊥ (λ m. (p_old (request x) m).before k)
      → MatchOption o ⊥ (λ m. (p_mid (request x) m).before k))
      × ((k : ℕ) (y : Option V) → MatchOption o ⊤ (λ m. (p_mid (request x) m).arguments k y)
      → MatchOption o ⊤ (λ m. (p_old (request x) m).arguments k y))
  exchange_as x None = (λ d r h. h, λ k h. h, λ k y h. h)
  exchange_as x (Some m) =
      let n = same.requests (request x) m in
      (λ d r h. n.gives d r h, λ k h. n.before k h, λ k y h. n.arguments k y h)

  pub flight_narrows : (f : FlightView S L D C K)
      → Narrows (flight_promise now f) (flight_promise before f)
  flight_narrows (Waiting x) =
      let n = exchange_as x (payload_feed feed x.body).marks in
      record { gives = n.0; before = n.1; arguments = n.2 }
  flight_narrows (InFlight h) = same.calls h.call h.record_of.request
  flight_narrows (Answered o) =
      record { gives = λ d r a. a; before = λ k b. b; arguments = λ k y a. a }

  request_as : (f g : FlightView S L D C K) → SameRequest now f g → SameRequest before f g
  request_as (Waiting x) g h =
      subst (λ (z : Request L D C). IsFor before z g) (same.completed (request x))
      (for_as (c_mid (request x)) g h)
  request_as (InFlight h) g i = for_as h.record_of.request g i
  request_as (Answered o) g h = h

  pub flight_as : (f g : FlightView S L D C K) (p q : Pool L) (calls_old calls_new : Option (List V))
      → FlightPoll now f g p q calls_old calls_new → FlightPoll before f g p q calls_old calls_new
  flight_as f g p q calls_old calls_new m = record {
    step = record {
      polled = λ e. result_as (flight_promise now f) (flight_promise before f) (flight_narrows f) g
          (m.step.polled e);
      answered = m.step.answered;
    };
    moves = m.moves;
    calls = calls_as (IsPast now f) (IsPast before f) (IsPast now g) (IsPast before g)
        (flight_promise now f).arguments (flight_promise before f).arguments (past_back f)
        (flight_narrows f).arguments (past_as g) (flight_outcome g) calls_old calls_new m.calls;
    request = request_as f g m.request;
  }

  polls_at : (k : ℕ) (old new : List (FlightView S L D C K)) (p q : Pool L)
      (calls_old calls_new : Option (List V)) (o : Option (FlightView S L D C K))
      → MatchOption o (NoChange now old new p q calls_old calls_new)
      (λ f. (g : FlightView S L D C K) × (new ≡ slice_set old k g)
      × FlightPoll now f g p q calls_old calls_new)
      → MatchOption o (NoChange before old new p q calls_old calls_new)
      (λ f. (g : FlightView S L D C K) × (new ≡ slice_set old k g)
      × FlightPoll before f g p q calls_old calls_new)
  polls_at k old new p q calls_old calls_new None m =
      record { flights = m.flights; pool = m.pool; calls = m.calls }
  polls_at k old new p q calls_old calls_new (Some f) m =
      (m.0, m.1, flight_as f m.0 p q calls_old calls_new m.2)

  pub polls_as : (k : ℕ) (old new : List (FlightView S L D C K)) (p q : Pool L)
      (calls_old calls_new : Option (List V)) → PollsAt now k old new p q calls_old calls_new
      → PollsAt before k old new p q calls_old calls_new
  polls_as k old new p q calls_old calls_new m =
      polls_at k old new p q calls_old calls_new (slice_get old k) m
