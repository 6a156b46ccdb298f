-- One poll in function form.
use Rattle.std.proofs.Common.{◌≡◌, ℕ, zero, suc, List, [], ◌∷◌, ap, refl, sym, arith, subst}
use Rattle.std.proofs.Common.{inl, inr}
use Rattle.std.specs.Prelude.{Option, None, Some, true, MatchOption}
use Rattle.std.specs.Prelude.{slice_get, slice_set, ◌⊎◌}
use Rattle.web_request.specs.Pool.{Pool}
use Rattle.web_reply.specs.ResponseBodies.{Plain}
use Rattle.web_reply.specs.Replies.{Reply}
use Rattle.web_worker.specs.Outcomes.{OutcomeView.Replied, OutcomeView.Unfinished}
use Rattle.web_worker.specs.Outcomes.{OutcomeView.NoMemory}
use Rattle.web_worker.specs.Exchanges.{CallView, FlightView}
use Rattle.web_worker.specs.Exchanges.{FlightView.Waiting, FlightView.InFlight}
use Rattle.web_worker.specs.Exchanges.{FlightView.Answered}
use Rattle.web_worker.specs.Flights.{FlightCalls, FlightStep, IsPast, PollResult, flight_outcome}
use Rattle.web_worker.specs.Flights.{flight_promise, is_open}
use Rattle.web_worker.specs.HandlerCalls.{ArgumentsMove, CallsAre, HaveCome, IsCall, IsValueNow}
use Rattle.web_worker.specs.PollOne.{CallEffect, CallEffectAt, Effect, EffectAt, FallsByOne}
use Rattle.web_worker.specs.PollOne.{FlightArgumentsOnce, FlightPoll, HasOneReply, NoChange}
use Rattle.web_worker.specs.PollOne.{PollsAt}
use Rattle.web_worker.specs.ServicePromises.{Narrows, one_later}
use Rattle.web_worker.specs.Setting.{Setting}

get_set : {X : Type 0} (xs : List X) (k : ℕ) (f g : X) → slice_get xs k ≡ Some f
    → slice_get (slice_set xs k g) k ≡ Some g
get_set [] k f g e = absurd cc
get_set (x ∷ xs) zero f g e = refl
get_set (x ∷ xs) (suc k) f g e = get_set xs k f g e

calls_same : {V : Type 0} (old new : Option (List V)) → CallsAre old None new → new ≡ old
calls_same None new e = e
calls_same (Some old) new e = e

module _ {S L D C V K : Type 0} (s : Setting S L D C V K) where
  falls : (d : ℕ) (r : Reply Plain) (f : FlightView S L D C K) (h : CallView L D C K)
      → HasOneReply s f d r
      → Narrows (s.left h.call h.record_of.request) (one_later (flight_promise s f))
      → ((s.left h.call h.record_of.request).before 0 → ⊥) → FallsByOne s d r (InFlight h)
  falls zero r f h one later still = absurd (still (later.before 0 one.comes))
  falls (suc e) r f h one later still = (
    e,
    refl,
    record {
      once = λ k p a.
          let z = one.once (suc k) p (later.gives k p a) in (omega (arith, z.0), z.1);
      comes = later.before (suc e) one.comes;
    },
  )

  effect_of : (d : ℕ) (r : Reply Plain) (f g : FlightView S L D C K) → HasOneReply s f d r
      → PollResult s (flight_promise s f) g → Effect s d r g
  effect_of d r f (Waiting x) one p = p
  effect_of d r f (InFlight h) one p = falls d r f h one p.0 p.1
  effect_of d r f (Answered (Replied a)) one p = let z = one.once 0 a p in (sym z.0, z.1)
  effect_of d r f (Answered Unfinished) one p = p
  effect_of d r f (Answered NoMemory) one p = tt

  effect_at : (k : ℕ) (old new : List (FlightView S L D C K)) (a b : Pool L)
      (calls_old calls_new : Option (List V)) (o : Option (FlightView S L D C K))
      → slice_get old k ≡ o
      → MatchOption o (NoChange s old new a b calls_old calls_new)
      (λ f. (g : FlightView S L D C K) × (new ≡ slice_set old k g)
      × FlightPoll s f g a b calls_old calls_new)
      → EffectAt s k old new
  effect_at k old new a b calls_old calls_new None e m f d r here open_one one = absurd (cc)
  effect_at k old new a b calls_old calls_new (Some f0) e m f d r here open_one one =
      let same : f0 ≡ f = cc in
      let step = subst (λ (z : FlightView S L D C K). FlightStep s z m.0) same m.2.step in
      (m.0, rw m.1 (get_set old k f0 m.0 e), effect_of d r f m.0 one (step.polled open_one))

  pub effects : (k : ℕ) (old new : List (FlightView S L D C K)) (a b : Pool L)
      (calls_old calls_new : Option (List V)) → PollsAt s k old new a b calls_old calls_new
      → EffectAt s k old new
  effects k old new a b calls_old calls_new m =
      effect_at k old new a b calls_old calls_new (slice_get old k) refl m

  -- extractors with one delay and one value
  not_come : (d : ℕ) (v : V) (f : FlightView S L D C K) → FlightArgumentsOnce s f (suc d) v
      → (y : Option V) → (flight_promise s f).arguments 0 y → ⊥
  not_come d v f one y a = let z = (one.once 0 y a).0 in absurd (omega (arith, z))

  none_came : (d : ℕ) (v : V) (f : FlightView S L D C K) → FlightArgumentsOnce s f (suc d) v
      → HaveCome (IsPast s f) (flight_promise s f).arguments → ⊥
  none_came d v f one (inl h) = one.to_come h
  none_came d v f one (inr h) = not_come d v f one h.0 h.1

  arguments_later : (d : ℕ) (v : V) (f g : FlightView S L D C K) → FlightArgumentsOnce s f (suc d) v
      → PollResult s (flight_promise s f) g
      → ArgumentsMove (IsPast s f) (flight_promise s f).arguments (IsPast s g) (flight_outcome g)
      → FlightArgumentsOnce s g d v ⊎ (g ≡ Answered NoMemory)
  arguments_later d v f (Waiting x) one p m = absurd p
  arguments_later d v f (InFlight h) one p m = inl (record {
    to_come = λ past. none_came d v f one (m past);
    once = λ k y a.
        let z = one.once (suc k) y (p.0.arguments k y a) in (omega (arith, z.0), z.1);
  })
  arguments_later d v f (Answered (Replied r)) one p m = absurd (none_came d v f one m)
  arguments_later d v f (Answered Unfinished) one p m = absurd p
  arguments_later d v f (Answered NoMemory) one p m = inr refl

  lost_is : (f g : FlightView S L D C K) → PollResult s (flight_promise s f) g
      → flight_outcome g ≡ NoMemory → g ≡ Answered NoMemory
  lost_is f (Waiting x) p e = absurd p
  lost_is f (InFlight h) p e = absurd cc
  lost_is f (Answered o) p e = ap (λ z. Answered z) e

  first_call : (v : V) (f g : FlightView S L D C K) (calls_old calls_new : Option (List V))
      (call : Option V) → FlightArgumentsOnce s f 0 v → CallsAre calls_old call calls_new
      → PollResult s (flight_promise s f) g
      → IsCall (IsPast s f) (flight_promise s f).arguments (flight_outcome g) call
      → CallEffect s 0 v g calls_old calls_new
  first_call v f g calls_old calls_new (Some x) one are p is =
      let same : x ≡ v = (let z = (one.once 0 (Some x) is).1 in cc) in
      inl (subst (λ (z : V). CallsAre calls_old (Some z) calls_new) same are)
  first_call v f g calls_old calls_new None one are p (inl n) =
      absurd (n (
        one.to_come,
        λ k y a.
            let z = one.once k y a in subst (λ (x : Option V). IsValueNow k x) (sym z.1) z.0,
      ))
  first_call v f g calls_old calls_new None one are p (inr n) =
      inr (lost_is f g p n, calls_same calls_old calls_new are)

  no_call : (d : ℕ) (v : V) (f g : FlightView S L D C K) (calls_old calls_new : Option (List V))
      (call : Option V) → FlightArgumentsOnce s f (suc d) v → CallsAre calls_old call calls_new
      → IsCall (IsPast s f) (flight_promise s f).arguments (flight_outcome g) call
      → calls_new ≡ calls_old
  no_call d v f g calls_old calls_new (Some x) one are is =
      absurd (not_come d v f one (Some x) is)
  no_call d v f g calls_old calls_new None one are is = calls_same calls_old calls_new are

  call_effect_of : (d : ℕ) (v : V) (f g : FlightView S L D C K)
      (calls_old calls_new : Option (List V)) → FlightArgumentsOnce s f d v
      → PollResult s (flight_promise s f) g
      → FlightCalls s f g calls_old calls_new → CallEffect s d v g calls_old calls_new
  call_effect_of zero v f g calls_old calls_new one p c =
      first_call v f g calls_old calls_new c.0 one c.1 p c.2
  call_effect_of (suc d) v f g calls_old calls_new one p c =
      (no_call d v f g calls_old calls_new c.0 one c.1 c.2, arguments_later d v f g one p c.3)

  is_open_yet : (f : FlightView S L D C K) → (IsPast s f → ⊥) → is_open f ≡ true
  is_open_yet (Waiting x) h = refl
  is_open_yet (InFlight k) h = refl
  is_open_yet (Answered o) h = absurd (h tt)

  call_effect_at : (k : ℕ) (old new : List (FlightView S L D C K)) (a b : Pool L)
      (calls_old calls_new : Option (List V)) (o : Option (FlightView S L D C K))
      → slice_get old k ≡ o
      → MatchOption o (NoChange s old new a b calls_old calls_new)
      (λ f. (g : FlightView S L D C K) × (new ≡ slice_set old k g)
      × FlightPoll s f g a b calls_old calls_new)
      → CallEffectAt s k old new calls_old calls_new
  call_effect_at k old new a b calls_old calls_new None e m f d v here one = absurd (cc)
  call_effect_at k old new a b calls_old calls_new (Some f0) e m f d v here one =
      let same : f0 ≡ f = cc in
      let poll = subst (λ (z : FlightView S L D C K).
      FlightPoll s z m.0 a b calls_old calls_new) same m.2 in (
        m.0,
        rw m.1 (get_set old k f0 m.0 e),
        call_effect_of d v f m.0 calls_old calls_new one
            (poll.step.polled (is_open_yet f one.to_come)) poll.calls,
      )

  pub call_effects : (k : ℕ) (old new : List (FlightView S L D C K)) (a b : Pool L)
      (calls_old calls_new : Option (List V)) → PollsAt s k old new a b calls_old calls_new
      → CallEffectAt s k old new calls_old calls_new
  call_effects k old new a b calls_old calls_new m =
      call_effect_at k old new a b calls_old calls_new (slice_get old k) refl m
