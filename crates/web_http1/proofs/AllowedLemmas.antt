-- What the promises allow, while one flight is polled.
use Rattle.std.proofs.Common.{◌≡◌, ℕ, suc, ◌+◌, ◌<◌, ◌⊎◌, inl, inr, true, false, not, List, [], ◌∷◌, ◌++◌, refl, sym, ap, ◌∙◌, subst, arith}
use Rattle.std.specs.Prelude.{Option, MatchOption, slice_get, slice_set, IfOk, Result, Ok, Err}
use Rattle.web_request.specs.Pool.{Pool}
use Rattle.web_request.specs.Request.{Request}
use Rattle.web_reply.specs.ResponseBodies.{Plain}
use Rattle.web_reply.specs.Replies.{Reply}
use Rattle.web_request.specs.declared.source.Mark.{Mark}
use Rattle.web_request.specs.Feed.{Feed}
use Rattle.web_worker.specs.ServicePromises.{Promise, SameService}
use Rattle.web_worker.specs.Exchanges.{ExchangeView, FlightView}
use Rattle.web_worker.specs.Exchanges.{FlightView.Waiting, FlightView.InFlight, FlightView.Answered}
use Rattle.web_worker.specs.Flights.{ExchangeGives, PollResult, flight_outcome, flight_promise, is_open}
use Rattle.web_worker.specs.Outcomes.{OutcomeView.Replied, OutcomeView.Unfinished, OutcomeView.NoMemory}
use Rattle.web_worker.specs.PollOne.{PollsAt, NoChange, FlightPoll}
use Rattle.web_worker.specs.Setting.{Setting, setting_with}
use Rattle.web_worker.proofs.ServiceLemmas.{polls_as}
use Rattle.web_http1.specs.Polls.{AllowedBy, AllowsOutcome, AllowsReply, LastReplied, first_answered}

module _ {S L D C V K : Type 0} (s : Setting S L D C V K) where
  -- one open flight: what it may give, the exchange may give after the polls that were made
  pub record StaysAllowed (x : ExchangeView S L D C) (flights : List (FlightView S L D C K)) (n : ℕ) : Type 0 where
    pub flight : FlightView S L D C K
    pub flights_are : flights ≡ flight ∷ []
    pub unanswered : is_open flight ≡ true
    pub later : (d : ℕ) (r : Reply Plain) → (flight_promise s flight).gives d r → ExchangeGives s x (n + d) r

  -- an answered flight
  pub record IsAllowed (x : ExchangeView S L D C) (flights : List (FlightView S L D C K)) : Type 0 where
    pub by : AllowedBy s x flights
    pub answered : first_answered flights ≡ true

  from_zero : (d : ℕ) → d ≡ 0 + d
  from_zero d = omega arith

  pub allowed_start : (flights : List (FlightView S L D C K)) (x : ExchangeView S L D C) → flights ≡ Waiting x ∷ [] → StaysAllowed x flights 0
  allowed_start flights x is = record { flight = Waiting x; flights_are = is; unanswered = refl; later = λ d r g. subst (λ (k : ℕ). ExchangeGives s x k r) (from_zero d) g }

  open_outcome : (x : ExchangeView S L D C) (f : FlightView S L D C K) → is_open f ≡ true → AllowsOutcome s x (flight_outcome f)
  open_outcome x (Waiting y) e = tt
  open_outcome x (InFlight k) e = tt
  open_outcome x (Answered o) e = absurd (cc)

  pub open_allowed : (x : ExchangeView S L D C) (flights : List (FlightView S L D C K)) (n : ℕ) → StaysAllowed x flights n → AllowedBy s x flights
  open_allowed x flights n o = record { flight = o.flight; flights_are = o.flights_are; allowed = open_outcome x o.flight o.unanswered }

  polled_to : (x : ExchangeView S L D C) (new : List (FlightView S L D C K)) (n : ℕ) → n < 18446744073709551615 → (f g : FlightView S L D C K)
      → ((d : ℕ) (r : Reply Plain) → (flight_promise s f).gives d r → ExchangeGives s x (n + d) r) → new ≡ g ∷ [] → PollResult s (flight_promise s f) g
      → StaysAllowed x new (n + 1) ⊎ IsAllowed x new
  polled_to x new n few f (Waiting y) later is p = absurd p
  polled_to x new n few f (InFlight k) later is p = inl (record {
    flight = InFlight k;
    flights_are = is;
    unanswered = refl;
    later = λ d r g. subst (λ (m : ℕ). ExchangeGives s x m r) (one_more n d) (later (suc d) r (p.0.gives d r g));
  })
    where
      one_more : (n d : ℕ) → n + suc d ≡ (n + 1) + d
      one_more n d = omega arith
  polled_to x new n few f (Answered (Replied r)) later is p = inr (record {
    by = record {
      flight = Answered (Replied r);
      flights_are = is;
      allowed = record { delay = n + 0; soon = omega (arith, few); gives = later 0 r p };
    };
    answered = ap first_answered is;
  })
  polled_to x new n few f (Answered Unfinished) later is p = absurd p
  polled_to x new n few f (Answered NoMemory) later is p = inr (record {
    by = record { flight = Answered NoMemory; flights_are = is; allowed = tt };
    answered = ap first_answered is;
  })

  polled : (x : ExchangeView S L D C) (old new : List (FlightView S L D C K)) (n : ℕ) → n < 18446744073709551615 → (p q : Pool L) (calls_old calls_new : Option (List V)) → StaysAllowed x old n
      → PollsAt s 0 old new p q calls_old calls_new → StaysAllowed x new (n + 1) ⊎ IsAllowed x new
  polled x old new n few p q calls_old calls_new o m =
      of (subst (λ (t : List (FlightView S L D C K)). MatchOption (slice_get t 0) (NoChange s old new p q calls_old calls_new) (λ f. (g : FlightView S L D C K) × (new ≡ slice_set old 0 g) × FlightPoll s f g p q calls_old calls_new)) o.flights_are m)
    where
      of : (g : FlightView S L D C K) × (new ≡ slice_set old 0 g) × FlightPoll s o.flight g p q calls_old calls_new → StaysAllowed x new (n + 1) ⊎ IsAllowed x new
      of m =
          polled_to x new n few o.flight m.0 o.later (m.1 ∙ ap (λ (t : List (FlightView S L D C K)). slice_set t 0 m.0) o.flights_are) (m.2.step.polled o.unanswered)

module _ {S L D C V K : Type 0} (feed : S → Feed) (request : ExchangeView S L D C → Request L D C)
    (c_a c_b : Request L D C → Request L D C) (p_a p_b : Request L D C → List Mark → Promise V) (l_a l_b : K → Request L D C → Promise V)
    (h : SameService c_a c_b p_a p_b l_a l_b)
    (x : ExchangeView S L D C) (old new : List (FlightView S L D C K)) (n : ℕ) (few : n < 18446744073709551615) (p q : Pool L) (calls_old calls_new : Option (List V))
    (o : StaysAllowed (setting_with c_a p_a l_a feed request) x old n) (m : PollsAt (setting_with c_b p_b l_b feed request) 0 old new p q calls_old calls_new) where
  both : StaysAllowed (setting_with c_a p_a l_a feed request) x new (n + 1) ⊎ IsAllowed (setting_with c_a p_a l_a feed request) x new
  both = polled (setting_with c_a p_a l_a feed request) x old new n few p q calls_old calls_new o (polls_as feed request c_a c_b p_a p_b l_a l_b h 0 old new p q calls_old calls_new m)

  open_answered : (k : ℕ) → StaysAllowed (setting_with c_a p_a l_a feed request) x new k → first_answered new ≡ false
  open_answered k o = ap first_answered o.flights_are ∙ ap not o.unanswered

  pub allowed_on : first_answered new ≡ false → StaysAllowed (setting_with c_a p_a l_a feed request) x new (n + 1)
  allowed_on not_yet = elim both [ inl y ↦ y | inr y ↦ let e = y.answered in absurd (cc (e, not_yet)) ]

  pub allowed_now : first_answered new ≡ true → AllowedBy (setting_with c_a p_a l_a feed request) x new
  allowed_now now = elim both [ inl y ↦ let e = open_answered (n + 1) y in absurd (cc (e, now)) | inr y ↦ y.by ]

-- the reply of the one flight
pub last_replied : {S L D C K : Type 0} (flights rest : List (FlightView S L D C K)) (f : FlightView S L D C K) (p : Reply Plain) → flights ≡ rest ++ f ∷ []
    → Replied p ≡ flight_outcome f → LastReplied flights p
last_replied flights [] f p is e = λ g only. let same : g ≡ f = cc (is, only) in ap flight_outcome same ∙ sym e
last_replied flights (g ∷ []) f p is e = λ k only. absurd (cc (is, only))
last_replied flights (g ∷ k ∷ rest) f p is e = λ j only. absurd (cc (is, only))

pub reply_allowed : {S L D C V K : Type 0} (s : Setting S L D C V K) (x : ExchangeView S L D C) (flights : List (FlightView S L D C K)) (p : Reply Plain)
    → AllowedBy s x flights → LastReplied flights p → AllowsReply s x p
reply_allowed s x flights p a last = subst (AllowsOutcome s x) (last a.flight a.flights_are) a.allowed

pub if_ok : {A E : Type 0} (r : Result A E) (P Q : A → Type 0) → ((x : A) → P x → Q x) → IfOk r P → IfOk r Q
if_ok (Ok x) P Q f h = f x h
if_ok (Err e) P Q f h = h
