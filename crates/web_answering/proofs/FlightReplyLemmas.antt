-- The replies of a flight before and after a poll.
use Rattle.std.proofs.Common.{◌≡◌, ℕ, suc, Bool, true, false, not, refl, ap, subst, ◌∙◌, arith}
use Rattle.std.specs.Prelude.{Option, None, Some, Result, Ok, Err, IfOk, List, [], ◌∷◌, ◌+◌, ◌≤◌}
use Rattle.web_request.specs.declared.source.Mark.{Mark}
use Rattle.web_request.specs.Feed.{Feed}
use Rattle.web_request.specs.Pool.{Pool}
use Rattle.web_request.specs.Request.{Request}
use Rattle.web_reply.specs.ResponseBodies.{Plain}
use Rattle.web_reply.specs.Replies.{Reply}
use Rattle.web_worker.specs.Exchanges.{FlightView, request_of}
use Rattle.web_worker.specs.Exchanges.{FlightView.Waiting, FlightView.InFlight}
use Rattle.web_worker.specs.Exchanges.{FlightView.Answered}
use Rattle.web_worker.specs.Flights.{FlightStep, PollResult, flight_promise, is_open}
use Rattle.web_worker.specs.Outcomes.{OutcomeView.Replied}
use Rattle.web_worker.specs.PlanPools.{with_records}
use Rattle.web_worker.specs.PollOne.{FlightPoll}
use Rattle.web_worker.specs.RecordsMade.{may_make}
use Rattle.web_worker.specs.ServicePromises.{Promise, SameService}
use Rattle.web_worker.specs.Setting.{Setting, setting_of}
use Rattle.web_worker.proofs.PoolCountLemmas.{polls_most, polls_rest}
use Rattle.web_worker.proofs.ServiceLemmas.{flight_narrows}
use Rattle.web_answering.specs.FlightReplies.{HasReplied, MayReply, is_answered}

not_false : (b : Bool) → not b ≡ false → b ≡ true
not_false true e = refl
not_false false e = absurd (cc)

module _ {S L D C V K : Type 0} (s : Setting S L D C V K) where
  -- what the flight may be answered with after a poll, it might be before, one poll later
  gives_before : (f g : FlightView S L D C K) → PollResult s (flight_promise s f) g
      → (d : ℕ) (r : Reply Plain) → (flight_promise s g).gives d r
      → (flight_promise s f).gives (suc d) r
  gives_before f (Waiting x) p d r h = absurd p
  gives_before f (InFlight k) p d r h = p.0.gives d r h
  gives_before f (Answered o) p d r h = absurd h

  pub reply_now : (f g : FlightView S L D C K) → FlightStep s f g → (r : Reply Plain)
      → HasReplied (Some g) r → MayReply s (Some f) r
  reply_now f g step r is k same unanswered =
      let eq : f ≡ k = cc in
      let new : g ≡ Answered (Replied r) = cc in
      let opened : is_open f ≡ true = ap is_open eq ∙ unanswered in (
        0,
        subst (λ (z : FlightView S L D C K). (flight_promise s z).gives 0 r) eq
            (subst (λ (z : FlightView S L D C K). PollResult s (flight_promise s f) z) new
            (step.polled opened)),
      )

-- a service before and after a poll
module _ {S L D C V K : Type 0} (feed : S → Feed)
    (c_old c_new : Request L D C → Request L D C)
    (p_old p_new : Request L D C → List Mark → Promise V)
    (l_old l_new : K → Request L D C → Promise V)
    (p q : Pool L) where
  abbrev before : Pool L → Setting S L D C V K
  before pool = setting_of c_old p_old l_old feed pool

  abbrev after : Pool L → Setting S L D C V K
  after pool = setting_of c_new p_new l_new feed pool

  pub reply_later : SameService c_old c_new p_old p_new l_old l_new
      → q ≡ with_records q.serials q.made p → (f g : FlightView S L D C K)
      → FlightStep (before p) f g → (r : Reply Plain) → is_answered (Some g) ≡ false
      → MayReply (after q) (Some g) r → MayReply (before p) (Some f) r
  reply_later h rest f g step r not_yet may k same unanswered =
      let eq : f ≡ k = cc in
      let opened : is_open f ≡ true = ap is_open eq ∙ unanswered in
      let come = may g refl (not_false (is_open g) not_yet) in
      let moved : (flight_promise (after p) g).gives come.0 r =
      subst (λ (z : Pool L). (flight_promise (after z) g).gives come.0 r) rest come.1 in
      let old = (flight_narrows feed (request_of p) c_old c_new p_old p_new l_old l_new h g).gives
      come.0 r moved in
      let early = gives_before (before p) f g (step.polled opened) come.0 r old in (
        suc come.0,
        subst (λ (z : FlightView S L D C K). (flight_promise (before p) z).gives (suc come.0) r)
            eq early,
      )

module _ {S L D C V K : Type 0} (s : Setting S L D C V K) where
  -- a poll of one flight is one of a list of one flight
  pub made_most : (f g : FlightView S L D C K) (p q : Pool L) (calls_old calls_new : Option (List V))
      → FlightPoll s f g p q calls_old calls_new
      → q.made + may_make (Some g) ≤ p.made + may_make (Some f)
  made_most f g p q calls_old calls_new poll =
      let m = polls_most s 0 (f ∷ []) (g ∷ []) p q calls_old calls_new (g, refl, poll) in
      omega (arith, m)

  pub pool_rest : (f g : FlightView S L D C K) (p q : Pool L) (calls_old calls_new : Option (List V))
      → FlightPoll s f g p q calls_old calls_new → q ≡ with_records q.serials q.made p
  pool_rest f g p q calls_old calls_new poll =
      polls_rest s 0 (f ∷ []) (g ∷ []) p q calls_old calls_new (g, refl, poll)

pub if_ok : {A E : Type 0} (r : Result A E) (P Q : A → Type 0) → ((x : A) → P x → Q x) → IfOk r P
    → IfOk r Q
if_ok (Ok x) P Q f h = f x h
if_ok (Err e) P Q f h = h
