-- A call of a handler, begun and polled.
use Rattle.std.proofs.Common.{◌≡◌, ℕ, suc, ◌+◌, refl, ap, arith, inl, inr}
use Rattle.std.specs.Prelude.{Bool, false, Option, None, Some, Result, Ok, Err, List}
use Rattle.web_texts.specs.declared.memory.NoMemory.{NoMemory as Wanting}
use Rattle.web_request.specs.declared.source.Mark.{Mark}
use Rattle.web_request.specs.Request.{Request}
use Rattle.web_body.specs.PollSteps.{GivesSome}
use Rattle.web_reply.specs.ResponseBodies.{Plain}
use Rattle.web_reply.specs.Replies.{Reply}
use Rattle.web_reply.specs.Responders.{Refuses}
use Rattle.web_extract.specs.Extracts.{Extracts}
use Rattle.web_worker.specs.declared.handler_service.Work.{Work}
use Rattle.web_worker.specs.declared.handler_service.Work.TheVariants.{Extracting, Handling}
use Rattle.web_worker.specs.ExchangeRules.{Rules, After, ComesBefore}
use Rattle.web_worker.specs.HandlerCalls.{AreOver, Calls, CallsAre, IsValueNow}
use Rattle.web_worker.specs.HandlerPromises.{Grows, Within}
use Rattle.web_worker.specs.HandlerServices.{Come, HandledOrStays, request_promise}
use Rattle.web_worker.specs.HandlerServices.{work_finished, work_promise}
use Rattle.web_worker.specs.Outcomes.{OutcomeMeets, OutcomeView, OutcomeView.Replied}
use Rattle.web_worker.specs.Outcomes.{OutcomeView.Unfinished, OutcomeView.NoMemory}
use Rattle.web_worker.specs.ServicePromises.{Begins, Narrows, OnUnfinished, Polls}
use Rattle.web_worker.specs.ServicePromises.{one_later}

pub calls_none : {V : Type 0} (calls : Option (List V)) → CallsAre calls None calls
calls_none None = refl
calls_none (Some old) = refl

-- what may come is seen
come_seen : {V E : Type 0} (gives : ℕ → Result V E → Type 0) → AreOver (Come gives) → (n : ℕ)
    (x : Result V E) → gives n x → ⊥
come_seen gives over n (Ok v) a = over n (Some v) a
come_seen gives over n (Err e) a = over n None (e, a)

pub not_over : {V E : Type 0} (gives : ℕ → Result V E → Type 0) → GivesSome gives
    → AreOver (Come gives) → ⊥
not_over gives some over = some (come_seen gives over)

come_later : {V E : Type 0} (old new : ℕ → Result V E → Type 0)
    → ((n : ℕ) (x : Result V E) → new n x → old (suc n) x) → (k : ℕ) (y : Option V)
    → Come new k y → Come old (suc k) y
come_later old new shift k (Some v) a = shift k (Ok v) a
come_later old new shift k None a = (a.0, shift k (Err a.0) a.1)

come_as : {V E : Type 0} (small large : ℕ → Result V E → Type 0)
    → ((n : ℕ) (x : Result V E) → small n x → large n x) → (k : ℕ) (y : Option V)
    → Come small k y → Come large k y
come_as small large i k (Some v) a = i k (Ok v) a
come_as small large i k None a = (a.0, i k (Err a.0) a.1)

never_now : {V : Type 0} (k : ℕ) (y : Option V) → IsValueNow (suc k) y → ⊥
never_now k (Some v) h = absurd (omega arith)
never_now k None h = h

-- ---- calls

-- nothing was called while the extractors are open
pub calls_pending : {V E : Type 0} (old new : ℕ → Result V E → Type 0) → GivesSome new
    → ((n : ℕ) (x : Result V E) → new n x → old (suc n) x) → (calls : Option (List V))
    → Calls (AreOver (Come old)) (Come old) (AreOver (Come new)) Unfinished calls calls
calls_pending old new some shift calls = (
  None,
  calls_none calls,
  inl (λ c. not_over new some (λ k y a. never_now k y (c.1 (suc k) y (come_later old new shift k y a)))),
  λ over. absurd (not_over new some over),
)

pub calls_failed : {V : Type 0} (over : Type 0) (arguments : ℕ → Option V → Type 0)
    (over_new : Type 0) (calls : Option (List V)) → Calls over arguments over_new NoMemory calls calls
calls_failed over arguments over_new calls = (None, calls_none calls, inr refl, tt)

pub calls_refused : {V E : Type 0} (gives : ℕ → Result V E → Type 0) (e : E) → gives 0 (Err e)
    → (over_new : Type 0) (calls : Option (List V)) (o : OutcomeView)
    → Calls (AreOver (Come gives)) (Come gives) over_new o calls calls
calls_refused gives e a over_new calls (Replied r) =
    (None, calls_none calls, inl (λ c. c.1 0 None (e, a)), inr (None, (e, a)))
calls_refused gives e a over_new calls Unfinished =
    (None, calls_none calls, inl (λ c. c.1 0 None (e, a)), λ over. inr (None, (e, a)))
calls_refused gives e a over_new calls NoMemory =
    (None, calls_none calls, inl (λ c. c.1 0 None (e, a)), tt)

grown_ok : {V Q : Type 0} (f : Q) (v : V) (old new : Option (List V)) → Grows (Ok f) v old new
    → CallsAre old (Some v) new
grown_ok f v None new g = g
grown_ok f v (Some old) new g = g

-- the handler was called with the value that came
pub calls_made : {V E Q : Type 0} (gives : ℕ → Result V E → Type 0) (g : Q) (v : V)
    → gives 0 (Ok v) → (old new : Option (List V)) → Grows (Ok g) v old new → (over_new : Type 0)
    (o : OutcomeView) → Calls (AreOver (Come gives)) (Come gives) over_new o old new
calls_made gives g v a old new grown over_new (Replied r) =
    (Some v, grown_ok g v old new grown, a, inr (Some v, a))
calls_made gives g v a old new grown over_new Unfinished =
    (Some v, grown_ok g v old new grown, a, λ over. inr (Some v, a))
calls_made gives g v a old new grown over_new NoMemory =
    (Some v, grown_ok g v old new grown, a, tt)

-- the call found no memory
pub calls_made_err : {V E : Type 0} (Q : Type 0) (gives : ℕ → Result V E → Type 0) (x : Wanting)
    (v : V) → gives 0 (Ok v) → (old new : Option (List V)) → Grows {W = Q} (Err x) v old new
    → (over_new : Type 0) → Calls (AreOver (Come gives)) (Come gives) over_new NoMemory old new
calls_made_err Q gives x v a None new g over_new = (None, g, inr refl, tt)
calls_made_err Q gives x v a (Some old) new (inl g) over_new = (Some v, g, a, tt)
calls_made_err Q gives x v a (Some old) new (inr g) over_new = (None, g, inr refl, tt)

-- the handler was called before
pub calls_handling : {V : Type 0} (over_new : Type 0) (calls : Option (List V)) (o : OutcomeView)
    → Calls {V = V} (AreOver {V = V} (λ k y. ⊥)) (λ k y. ⊥) over_new o calls calls
calls_handling over_new calls (Replied r) =
    (None, calls_none calls, inl (λ c. c.0 (λ k y a. a)), inl (λ k y a. a))
calls_handling over_new calls Unfinished =
    (None, calls_none calls, inl (λ c. c.0 (λ k y a. a)), λ over. inl (λ k y a. a))
calls_handling over_new calls NoMemory =
    (None, calls_none calls, inl (λ c. c.0 (λ k y a. a)), tt)

-- ---- promises

module _ {L D C V E Y : Type 0} (R : Rules L D C V E Y) where
  after_later : (q : Request L D C) (n : ℕ) (x : Result V E) (d : ℕ) (r : Reply Plain)
      → After R q n x d r → After R q (suc n) x (suc d) r
  after_later q n (Err e) d r h = (ap suc h.0, h.1)
  after_later q n (Ok v) d r h =
      let e : suc d ≡ suc n + h.0 = omega (arith, h.4) in (h.0, h.1, h.2, h.3, e)

  before_sooner : (polls n : ℕ) (x : Result V E) → ComesBefore R (suc polls) (suc n) x
      → ComesBefore R polls n x
  before_sooner polls n (Err e) h = omega arith
  before_sooner polls n (Ok v) h =
      (omega (arith, h.0), λ k y a. let q = h.1 k y a in omega arith)

  module _ {U W : Type 0}
      (extracts : U → ℕ → Result V E → Type 0) (handles : W → ℕ → Y → Type 0)
      (q : Request L D C) where
    pub begun : (f : U) (o left : Option (List Mark)) → Extracts (R.means q) (extracts f) o left
        → Begins (λ m. request_promise R q m) o (work_promise R extracts handles (Extracting f) q)
    begun f None left e = tt
    begun f (Some m) left e = record {
      gives = λ d r g. (e.0, g.0, g.1, e.2 g.0 g.1 g.2, g.3);
      before = λ n h k x a. h e.0 k x (e.2 k x a);
      arguments = come_as (extracts f) (λ n x. (rest : List Mark) × R.means q m rest n x)
          (λ n x a. (e.0, e.2 n x a));
    }

    -- the extractors are not there yet
    pub extracting : (f g : U) → ((n : ℕ) (x : Result V E) → extracts g n x → extracts f (suc n) x)
        → Narrows (work_promise R extracts handles (Extracting g) q)
        (one_later (work_promise R extracts handles (Extracting f) q))
    extracting f g shift = record {
      gives = λ d r a. (suc a.0, a.1, shift a.0 a.1 a.2, after_later q a.0 a.1 d r a.3);
      before = λ n b k x a. before_sooner n k x (b (suc k) x (shift k x a));
      arguments = come_later (extracts f) (extracts g) shift;
    }

    -- nor is the handler's value
    pub handling : (f g : W) → ((n : ℕ) (y : Y) → handles g n y → handles f (suc n) y)
        → Narrows (work_promise R extracts handles (Handling g) q)
        (one_later (work_promise R extracts handles (Handling f) q))
    handling f g shift = record {
      gives = λ d r a. (a.0, shift d a.0 a.1, a.2);
      before = λ polls b n y a. let l = b (suc n) y (shift n y a) in omega arith;
      arguments = λ k y a. a;
    }

    -- the extractors were refused
    pub refused : (f : U) (e : E) (o : OutcomeView) (c : Work U W) → extracts f 0 (Err e)
        → OutcomeMeets (λ r. Refuses R.converts e r) o
        → Polls o (work_promise R extracts handles (Extracting f) q) (work_promise R extracts handles c q)
    refused f e (Replied r) c a meets = (0, Err e, a, (refl, meets))
    refused f e Unfinished c a meets = absurd meets
    refused f e NoMemory c a meets = tt

    -- the handler's value is there
    pub handled : (f : W) (y : Y) (o : OutcomeView) (c : Work U W) → handles f 0 y
        → OutcomeMeets (λ r. R.responds y q r) o
        → Polls o (work_promise R extracts handles (Handling f) q) (work_promise R extracts handles c q)
    handled f y (Replied r) c a meets = (y, a, meets)
    handled f y Unfinished c a meets = absurd meets
    handled f y NoMemory c a meets = tt

    -- the handler is called and polled in the same turn
    pub called : (w : W → Bool) (f : U) (v : V) (g : W) → extracts f 0 (Ok v)
        → Within (handles g) (R.answers v) → (c : Work U W) (o : OutcomeView)
        → HandledOrStays w handles R.responds g q c o
        → Polls o (work_promise R extracts handles (Extracting f) q) (work_promise R extracts handles c q)
    called w f v g a i (Extracting u) Unfinished h = absurd h
    called w f v g a i (Handling k) Unfinished h = record {
      gives = λ d r y.
          let e : suc d ≡ 0 + suc d = omega arith in
          (0, Ok v, a, (suc d, y.0, i (suc d) y.0 (h.1 d y.0 y.1), y.2, e));
      before = λ n b j y p.
          let l = (b 0 (Ok v) a).1 (suc j) y (i (suc j) y (h.1 j y p)) in omega arith;
      arguments = λ k y b. absurd b;
    }
    called w f v g a i c (Replied r) h = (0, Ok v, a, (0, h.0, i 0 h.0 h.1, h.2, refl))
    called w f v g a i c NoMemory h = tt

-- a call that waits for the handler is not finished
pub still_open : {U W Y Q : Type 0} (u : U → Bool) (w : W → Bool) (handles : W → ℕ → Y → Type 0)
    (responds : Y → Q → Reply Plain → Type 0) (g : W) (q : Q) (c : Work U W) (o : OutcomeView)
    → HandledOrStays w handles responds g q c o
    → OnUnfinished o (work_finished u w c ≡ false)
still_open u w handles responds g q (Extracting f) Unfinished h = absurd h
still_open u w handles responds g q (Handling f) Unfinished h = h.0
still_open u w handles responds g q c (Replied r) h = tt
still_open u w handles responds g q c NoMemory h = tt

-- the value of a handler's future that is there at once
pub handled_now : {U W Y Q : Type 0} (w : W → Bool) (handles : W → ℕ → Y → Type 0)
    (responds : Y → Q → Reply Plain → Type 0) (f : W) (q : Q) (y : Y) (c : Work U W)
    (o : OutcomeView) → handles f 0 y → OutcomeMeets (λ r. responds y q r) o
    → HandledOrStays w handles responds f q c o
handled_now w handles responds f q y c (Replied r) a meets = (y, a, meets)
handled_now w handles responds f q y c Unfinished a meets = absurd meets
handled_now w handles responds f q y c NoMemory a meets = tt
