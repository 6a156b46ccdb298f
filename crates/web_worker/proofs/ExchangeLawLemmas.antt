-- From what extractors, a handler and a responder allow to the one reply of an exchange.
use Rattle.std.proofs.Common.{◌≡◌, ◌∙◌, ℕ, ◌+◌, ◌<◌, List, [], ◌∷◌, arith, subst, sym, refl}
use Rattle.std.specs.Prelude.{Option, None, Some, Result, Ok, Err, IfOk, IsSome}
use Rattle.std.specs.Result.{result_ok}
use Rattle.web_request.specs.declared.source.Mark.{Mark}
use Rattle.web_request.specs.Request.{Request}
use Rattle.web_body.specs.Payload.{payload_feed}
use Rattle.web_reply.specs.ResponseBodies.{Plain, whole_plain}
use Rattle.web_reply.specs.Replies.{Fault, Reply, error_reply, plain_reply}
use Rattle.web_extract.specs.ListMeanings.{Meaning, Member}
use Rattle.web_extract.specs.ListResults.{DelayedResult, Exactly}
use Rattle.web_extract.specs.ReadyFuture.{GivesHeld}
use Rattle.web_extract.specs.SeenResults.{SeenAs}
use Rattle.web_worker.specs.AnsweredExchanges.{AreAnswered, StatesMarks, marks_or_none}
use Rattle.web_worker.specs.AnsweredExchanges.{reply_or_error}
use Rattle.web_worker.specs.ExchangeRules.{After, ComesBefore, Rules}
use Rattle.web_worker.specs.Exchanges.{ExchangeView}
use Rattle.web_worker.specs.HandlerServices.{Come, Means, request_promise}
use Rattle.web_worker.specs.OutcomeFunctions.{AnswersOnce, DeterministicOutcomes, IsOutcome}
use Rattle.web_worker.specs.Outcomes.{OutcomeView}
use Rattle.web_worker.specs.PlanCalls.{ArgumentsOnce}
use Rattle.web_worker.specs.PlanOutcomes.{EachFrom, poll_count}
use Rattle.web_worker.specs.ReplyFunctions.{AnswersOnly, LeadsTo, RepliesOnly, RespondsOnly}
use Rattle.web_worker.specs.ServicePromises.{Once}
use Rattle.web_worker.specs.Setting.{Setting}

pub seen_itself : {T : Type 0} (M : Meaning T) (m rest : List Mark) (v : DelayedResult T)
    → Exactly M m rest v → SeenAs (λ x. x) M m rest v
seen_itself M m rest v exact left n (Ok x) h = (exact left n (Ok x)).0 h
seen_itself M m rest v exact left n (Err x) h = (exact left n (Err x)).0 h

module _ {L D C V E Y : Type 0} (R : Rules L D C V E Y) (q : Request L D C) where
  once_after : (d w : ℕ) (r : Reply Plain) (n : ℕ) (x : Result V E) → LeadsTo R q d w r n x
      → (k : ℕ) (s : Reply Plain) → After R q n x k s → (k ≡ d + w) × (s ≡ r)
  once_after d w r n (Ok v) l k s a =
      let b = l.1 a.0 a.1 a.2 in
      let e : k ≡ d + w = omega (arith, l.0, b.0, a.4) in (e, b.1 s a.3)
  once_after d w r n (Err e) l k s a = absurd l

  comes_before : (d w : ℕ) (r : Reply Plain) (n : ℕ) (x : Result V E) → LeadsTo R q d w r n x
      → (p : ℕ) → d + w < p → ComesBefore R p n x
  comes_before d w r n (Ok v) l p h =
      (omega (arith, l.0, h), λ k y a. let b = l.1 k y a in omega (arith, l.0, b.0, h))
  comes_before d w r n (Err e) l p h = absurd l

  pub came : (m : List Mark) (d w : ℕ) (r : Reply Plain)
      → ((rest : List Mark) (n : ℕ) (x : Result V E) → R.means q m rest n x → LeadsTo R q d w r n x)
      → Once (request_promise R q m) (d + w) r
  came m d w r leads = record {
    once = λ k s g. once_after d w r g.1 g.2 (leads g.0 g.1 g.2 g.3) k s g.4;
    comes = λ p h rest n x a. comes_before d w r n x (leads rest n x a) p h;
  }

  module _ {V' : Type 0} (converted : (e : E) → (f : Fault) × R.converts e f) (view : V → V')
      (m rest : List Mark) where
    module _ (d w : ℕ) (v' : V') (r : Reply Plain)
        (seen : SeenAs view (Member R.converts (R.means q)) m rest
        (record { delay = d; result = Ok v' }))
        (only : (v : V) → view v ≡ v' → RepliesOnly (R.answers v) (λ y. R.responds y q) w r) where
      leads : (left : List Mark) (n : ℕ) (x : Result V E) → R.means q m left n x
          → LeadsTo R q d w r n x
      leads left n (Ok u) a =
          let is = seen left n (Ok u) a in
          let e = is.2 in
          let same : view u ≡ v' = cc in (is.1, only u same)
      leads left n (Err e) a =
          let f = converted e in
          let is = seen left n (Err f.0) (e, a, f.1) in
          let no = is.2 in absurd cc

      pub exchanged : Once (request_promise R q m) (d + w) r
      exchanged = came m d w r leads

    module _ (d : ℕ) (f : Fault)
        (seen : SeenAs view (Member R.converts (R.means q)) m rest
        (record { delay = d; result = Err f })) where
      refused_after : (left : List Mark) (n : ℕ) (x : Result V E) → R.means q m left n x
          → (k : ℕ) (s : Reply Plain) → After R q n x k s
          → (k ≡ d) × (s ≡ plain_reply whole_plain (error_reply f))
      refused_after left n (Ok u) a k s g =
          let is = seen left n (Ok u) a in
          let no = is.2 in absurd cc
      refused_after left n (Err e) a k s g =
          let is = seen left n (Err g.1.0) (e, a, g.1.1) in
          let no = is.2 in
          let same : g.1.0 ≡ f = cc in (
            g.0 ∙ is.1,
            subst (λ (t : Fault). s ≡ plain_reply whole_plain (error_reply t)) same g.1.2,
          )

      refused_before : (left : List Mark) (n : ℕ) (x : Result V E) → R.means q m left n x
          → (p : ℕ) → d < p → ComesBefore R p n x
      refused_before left n (Ok u) a p h =
          let is = seen left n (Ok u) a in
          let no = is.2 in absurd cc
      refused_before left n (Err e) a p h =
          let g = converted e in
          let is = seen left n (Err g.0) (e, a, g.1) in omega (arith, is.1, h)

      pub refused_once : Once (request_promise R q m) d (plain_reply whole_plain (error_reply f))
      refused_once = record {
        once = λ k s g. refused_after g.0 g.1 g.2 g.3 k s g.4;
        comes = λ p h left n x a. refused_before left n x a p h;
      }

    -- a handler that answers at once: the reply to the value, or to the error in its place
    pub answered : (reply : V' → Reply Plain) (d : ℕ) (x : Result V' Fault)
        → SeenAs view (Member R.converts (R.means q)) m rest (record { delay = d; result = x })
        → ((u : V) → RepliesOnly (R.answers u) (λ y. R.responds y q) 0 (reply (view u)))
        → Once (request_promise R q m) d (reply_or_error reply x)
    answered reply d (Ok v) seen only =
        let at : d + 0 ≡ d = omega arith in
        subst (λ (n : ℕ). Once (request_promise R q m) n (reply v)) at
        (exchanged d 0 v (reply v) seen
        (λ u e.
        subst (λ (t : V'). RepliesOnly (R.answers u) (λ y. R.responds y q) 0 (reply t)) e (only u)))
    answered reply d (Err f) seen only = refused_once d f seen

  pub exactly_once : (converted : (e : E) → (f : Fault) × R.converts e f) (m rest : List Mark)
      (d w : ℕ) (v : V) (y : Y) (r : Reply Plain)
      → Exactly (Member R.converts (R.means q)) m rest (record { delay = d; result = Ok v })
      → AnswersOnly (R.answers v) w y → RespondsOnly (R.responds y q) r
      → Once (request_promise R q m) (d + w) r
  exactly_once converted m rest d w v y r exact answers responds =
      exchanged converted (λ u. u) m rest d w v r (seen_itself (Member R.converts (R.means q)) m rest
      (record { delay = d; result = Ok v }) exact)
      (λ u is k z b.
      let at = answers k z (subst (λ (t : V). R.answers t k z) is b) in
      (at.0, λ s c. responds s (subst (λ (t : Y). R.responds t q s) at.1 c)))

  -- as what the extractors may come, where they allow exactly one result
  pub argued : (converted : (e : E) → (f : Fault) × R.converts e f) (m rest : List Mark)
      (v : DelayedResult V) → Exactly (Member R.converts (R.means q)) m rest v
      → (k : ℕ) (z : Option V) → Come (Means R q m) k z → (k ≡ v.delay) × (z ≡ result_ok v.result)
  argued converted m rest v exact k (Some u) (left, a) =
      let is = (exact left k (Ok u)).0 a in (is.1, rw (← is.2) refl)
  argued converted m rest v exact k None (e, (left, a)) =
      let f = converted e in
      let is = (exact left k (Err f.0)).0 (e, a, f.1) in (is.1, rw (← is.2) refl)

-- what a worker says of an exchange whose marks are stated
pub bridged : {S L D C V K : Type 0} (s : Setting S L D C V K)
    (x : ExchangeView S L D C) (m : List Mark) (d : ℕ) (r : Reply Plain)
    → (payload_feed s.feed x.body).marks ≡ Some m
    → Once (s.promise (s.request x) m) d r → AnswersOnce s x d r
bridged s x m d r e o = record {
  once = λ k p g. o.once k p (rw e at g);
  comes = λ n h. rw e (o.comes n h);
}

pub argued_once : {S L D C V K : Type 0} (s : Setting S L D C V K)
    (x : ExchangeView S L D C) (m : List Mark) (d : ℕ) (y : Option V)
    → (payload_feed s.feed x.body).marks ≡ Some m
    → ((k : ℕ) (z : Option V) → (s.promise (s.request x) m).arguments k z → (k ≡ d) × (z ≡ y))
    → ArgumentsOnce s x d y
argued_once s x m d y e each = rw e each

module _ {S L D C V K : Type 0} (s : Setting S L D C V K)
    (delay : ExchangeView S L D C → ℕ) (reply : ExchangeView S L D C → Reply Plain)
    (once : (x : ExchangeView S L D C) → StatesMarks s.feed x
    → AnswersOnce s x (delay x) (reply x)) where
  from : (plan : List ℕ) (i : ℕ) (xs : List (ExchangeView S L D C)) (os : List OutcomeView)
      → EachFrom (λ k x o. (d : ℕ) (r : Reply Plain) → AnswersOnce s x d r
      → IsOutcome d r (poll_count plan k) o) i xs os
      → EachFrom (λ k x o. StatesMarks s.feed x
      → IsOutcome (delay x) (reply x) (poll_count plan k) o) i xs os
  from plan i [] [] h = tt
  from plan i (x ∷ xs) (o ∷ os) h =
      (λ states. h.0 (delay x) (reply x) (once x states), from plan (i + 1) xs os h.1)
  from plan i [] (o ∷ os) h = absurd h
  from plan i (x ∷ xs) [] h = absurd h

  -- each exchange whose body states its marks has its one outcome
  pub each_answered : (plan : List ℕ) (xs : List (ExchangeView S L D C)) (os : List OutcomeView)
      → DeterministicOutcomes s plan xs os → AreAnswered s.feed delay reply plan xs os
  each_answered plan xs os h = from plan 0 xs os h

-- marks that are stated
pub marks_stated : (m : Option (List Mark)) → IsSome m → m ≡ Some (marks_or_none m)
marks_stated None h = absurd cc
marks_stated (Some m) h = refl

-- a future that holds a value gives it at once, and nothing else
pub holds_only : {V : Type 0} (f : Option V) (v : V) (n : ℕ) (y : V) → f ≡ Some v → GivesHeld f n y
    → (n ≡ 0) × (y ≡ v)
holds_only None v n y e gives = absurd cc
holds_only (Some w) v n y e gives = (gives.0, cc)

-- what is known of each value is known of the result
pub on_ok : {T E : Type 0} (result : Result T E) (P Q : T → Type 0) → ((x : T) → P x → Q x)
    → IfOk result P → IfOk result Q
on_ok (Ok x) P Q f p = f x p
on_ok (Err e) P Q f p = tt

-- an error that is what it converts into
pub member_seen : {T U : Type 0} (view : T → U) (M : Meaning T) (m rest : List Mark)
    (v : DelayedResult U) → SeenAs view M m rest v
    → SeenAs view (Member (λ e f. f ≡ e) M) m rest v
member_seen view M m rest v seen left n (Ok x) h = seen left n (Ok x) h
member_seen view M m rest v seen left n (Err x) h =
    seen left n (Err x) (subst (λ (z : Fault). M m left n (Err z)) (sym h.2) h.1)
