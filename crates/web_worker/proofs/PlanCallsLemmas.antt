-- The calls of a plan, poll by poll.
use Rattle.std.proofs.Common.{◌≡◌, ℕ, zero, suc, ◌+◌, ◌<◌, ◌≤◌, ◌≢◌, List, [], ◌∷◌, ◌++◌, map, length, refl, sym, ◌∙◌, ap, arith, subst, inl, inr, append_assoc, append-nil}
use Rattle.std.proofs.Math.Seq.{take-append_seam}
use Rattle.std.proofs.lemmas.List.{take-append-le}
use Rattle.std.proofs.lemmas.List.Elements.{filter_map-append}
use Rattle.std.specs.Prelude.{Option, None, Some, ⊤, MatchOption, slice_get, slice_set, take}
use Rattle.std.specs.List.{cons_option}
use Rattle.web_request.specs.declared.source.Mark.{Mark}
use Rattle.web_request.specs.Pool.{Pool}
use Rattle.web_body.specs.Payload.{payload_feed}
use Rattle.web_worker.specs.Outcomes.{OutcomeView, OutcomeView.Replied, OutcomeView.Unfinished, OutcomeView.NoMemory}
use Rattle.web_worker.specs.Exchanges.{ExchangeView, FlightView}
use Rattle.web_worker.specs.Exchanges.{FlightView.Waiting, FlightView.InFlight, FlightView.Answered}
use Rattle.web_worker.specs.Setting.{Setting}
use Rattle.web_worker.specs.Flights.{ExchangeArguments, FlightStep, IsPast, PollResult, flight_outcome, flight_promise}
use Rattle.web_worker.specs.PollOne.{PollsAt, NoChange, FlightPoll}
use Rattle.web_worker.specs.HandlerCalls.{IsValueNow, CallsAre, ComeNow, HaveCome, IsCall, ArgumentsMove}
use Rattle.web_worker.specs.PlanOutcomes.{poll_count, EachFrom, OfWaiting}
use Rattle.web_worker.specs.PlanCalls.{IsValueAt, ArgumentsComeAt, EntryCall, AllowedCalls, AppendsCalls, LacksMemory}
use Rattle.web_worker.proofs.NumberedPairsLemmas.{each_set, each_none, each_same, each_push, each_get, each_get_none, get_set, get_kept, polls_here, polls_other}

value_now : {V : Type 0} (n k : ℕ) (y : Option V) → IsValueAt n (n + k) y → IsValueNow k y
value_now n k (Some v) h = omega arith
value_now n k None h = h

not_before : {V : Type 0} (n d : ℕ) (y : Option V) → d < n → IsValueAt n d y → ⊥
not_before n d (Some v) l h = absurd (omega arith)
not_before n d None l h = h

come_untold : {V : Type 0} (o : Option (List Mark)) (P : List Mark → ℕ → Option V → Type 0) (n d : ℕ) (y : Option V) → d < n
    → MatchOption o ⊤ (λ m. P m d y) → MatchOption o ⊥ (λ m. (k : ℕ) (z : Option V) → P m k z → IsValueAt n k z) → ⊥
come_untold None P n d y l h c = c
come_untold (Some m) P n d y l h c = not_before n d y l (c d y h)

now_untold : {V : Type 0} (o : Option (List Mark)) (P : List Mark → ℕ → Option V → Type 0) (n k : ℕ) (y : Option V)
    → MatchOption o ⊤ (λ m. P m (n + k) y) → MatchOption o ⊥ (λ m. (j : ℕ) (z : Option V) → P m j z → IsValueAt n j z) → IsValueNow k y
now_untold None P n k y h c = absurd c
now_untold (Some m) P n k y h c = value_now n k y (c (n + k) y h)

calls_same : {V : Type 0} (calls : Option (List V)) → CallsAre calls None calls
calls_same None = refl
calls_same (Some old) = refl

calls_after : {V : Type 0} (old vs : List V) (call : Option V) (new : Option (List V)) → CallsAre (Some (old ++ vs)) call new → new ≡ Some (old ++ (vs ++ cons_option call []))
calls_after old vs None new h = h ∙ ap (λ (z : List _). Some (old ++ z)) (sym (append-nil vs))
calls_after old vs (Some v) new h = h ∙ ap Some (append_assoc old vs (v ∷ []))

appends_next : {V : Type 0} (calls_old mid new : Option (List V)) (call : Option V) (P Q : List V → Type 0) → ((vs : List V) → P vs → Q (vs ++ cons_option call []))
    → AppendsCalls calls_old mid P → CallsAre mid call new → AppendsCalls calls_old new Q
appends_next None mid new call P Q f h c = let d = subst (λ (z : Option (List _)). CallsAre z call new) h c in d
appends_next (Some old) mid new call P Q f h c =
    (h.0 ++ cons_option call [], calls_after old h.0 call new (subst (λ (z : Option (List _)). CallsAre z call new) h.1 c), f h.0 h.2)

appends_as : {V : Type 0} (old new : Option (List V)) (P Q : List V → Type 0) → ((vs : List V) → P vs → Q vs) → AppendsCalls old new P → AppendsCalls old new Q
appends_as None new P Q f h = h
appends_as (Some old) new P Q f h = (h.0, h.1, f h.0 h.2)

module _ {S L D C V K : Type 0} (s : Setting S L D C V K) where
  -- the extractors came before n polls
  abbrev pub ArgumentsCameBefore : ℕ → ExchangeView S L D C → Type 0
  ArgumentsCameBefore n x = (d : ℕ) × (y : Option V) × (d < n) × ExchangeArguments s x d y

  -- the extractors of the flight of the exchange after n polls
  abbrev pub ArgumentsAfter : ℕ → ExchangeView S L D C → FlightView S L D C K → Type 0
  ArgumentsAfter n x (Waiting y) = (y ≡ x) × (n ≡ 0)
  ArgumentsAfter n x (InFlight h) =
      ((k : ℕ) (y : Option V) → (s.left h.call h.record_of.request).arguments k y → ExchangeArguments s x (n + k) y)
      × (IsPast s (InFlight h) → ArgumentsCameBefore n x)
  ArgumentsAfter n x (Answered (Replied r)) = ArgumentsCameBefore n x
  ArgumentsAfter n x (Answered Unfinished) = ⊥
  ArgumentsAfter n x (Answered NoMemory) = ⊤

  -- an allocation failed at a poll of the flight of this number
  abbrev pub FlightLacksMemory : List (FlightView S L D C K) → ℕ → Type 0
  FlightLacksMemory fs k = slice_get fs k ≡ Some (Answered NoMemory)

  stays_answered : (f g : FlightView S L D C K) (o : OutcomeView) → f ≡ Answered o → FlightStep s f g → g ≡ Answered o
  stays_answered f g o e m = (subst (λ (z : FlightView S L D C K). FlightStep s z g) e m).answered refl

  -- the calls of a plan over flights that waited
  abbrev pub CallsAfter : List ℕ → List (FlightView S L D C K) → List (FlightView S L D C K) → Option (List V) → Option (List V) → Type 0
  CallsAfter plan old new calls_old calls_new = OfWaiting old (λ xs. EachFrom (λ k x f. ArgumentsAfter (poll_count plan k) x f) 0 xs new
      × AppendsCalls calls_old calls_new (λ vs. AllowedCalls s (FlightLacksMemory new) xs plan vs))

  come_later : (n : ℕ) (x : ExchangeView S L D C) → ArgumentsCameBefore n x → ArgumentsCameBefore (suc n) x
  come_later n x h = let l : h.0 < suc n = omega (arith, h.2) in (h.0, h.1, l, h.3)

  not_come_at : (n : ℕ) (x : ExchangeView S L D C) → ArgumentsCameBefore n x → ArgumentsComeAt s x n → ⊥
  not_come_at n x h c = come_untold (payload_feed s.feed x.body).marks (λ m. (s.promise (s.request x) m).arguments) n h.0 h.1 h.2 h.3 c

  -- what the extractors of an open flight may come as, those of its exchange may n polls later
  gives_arguments : (n : ℕ) (x : ExchangeView S L D C) (f : FlightView S L D C K) → ArgumentsAfter n x f → (k : ℕ) (z : Option V) → (flight_promise s f).arguments k z → ExchangeArguments s x (n + k) z
  gives_arguments n x (Waiting y) a k z g =
      let l : k ≡ n + k = omega (arith, a.1) in subst (λ (j : ℕ). ExchangeArguments s x j z) l (subst (λ (t : ExchangeView S L D C). ExchangeArguments s t k z) a.0 g)
  gives_arguments n x (InFlight h) a k z g = a.0 k z g
  gives_arguments n x (Answered o) a k z g = absurd g

  came : (n : ℕ) (x : ExchangeView S L D C) (y : Option V) → ExchangeArguments s x (n + 0) y → ArgumentsCameBefore (suc n) x
  came n x y h = let l : n + 0 < suc n = omega arith in (n + 0, y, l, h)

  past_came : (n : ℕ) (x : ExchangeView S L D C) (f : FlightView S L D C K) → ArgumentsAfter n x f → (f ≡ Answered NoMemory → ⊥) → IsPast s f → ArgumentsCameBefore n x
  past_came n x (Waiting y) a kept h = absurd h
  past_came n x (InFlight f) a kept h = a.1 h
  past_came n x (Answered (Replied r)) a kept h = a
  past_came n x (Answered Unfinished) a kept h = absurd a
  past_came n x (Answered NoMemory) a kept h = absurd (kept refl)

  -- those that came at this poll, or before
  have_come : (n : ℕ) (x : ExchangeView S L D C) (f : FlightView S L D C K) → ArgumentsAfter n x f → (f ≡ Answered NoMemory → ⊥)
      → HaveCome (IsPast s f) (flight_promise s f).arguments → ArgumentsCameBefore (suc n) x
  have_come n x f a kept (inl h) = come_later n x (past_came n x f a kept h)
  have_come n x f a kept (inr h) = came n x h.0 (gives_arguments n x f a 0 h.0 h.1)

  answered_arguments : (n : ℕ) (x : ExchangeView S L D C) (o : OutcomeView) → ArgumentsAfter n x (Answered o) → ArgumentsAfter (suc n) x (Answered o)
  answered_arguments n x (Replied r) a = come_later n x a
  answered_arguments n x Unfinished a = absurd a
  answered_arguments n x NoMemory a = a

  open_next : (n : ℕ) (x : ExchangeView S L D C) (f g : FlightView S L D C K) → ArgumentsAfter n x f → (f ≡ Answered NoMemory → ⊥) → PollResult s (flight_promise s f) g
      → ArgumentsMove (IsPast s f) (flight_promise s f).arguments (IsPast s g) (flight_outcome g) → ArgumentsAfter (suc n) x g
  open_next n x f (Waiting y) a kept p m = absurd p
  open_next n x f (InFlight h) a kept p m = (
    λ k z b. let l : n + suc k ≡ suc n + k = omega arith in subst (λ (j : ℕ). ExchangeArguments s x j z) l (gives_arguments n x f a (suc k) z (p.0.arguments k z b)),
    λ past. have_come n x f a kept (m past),
  )
  open_next n x f (Answered (Replied r)) a kept p m = have_come n x f a kept m
  open_next n x f (Answered Unfinished) a kept p m = absurd p
  open_next n x f (Answered NoMemory) a kept p m = tt

  arguments_next : (n : ℕ) (x : ExchangeView S L D C) (f g : FlightView S L D C K) → ArgumentsAfter n x f → FlightStep s f g
      → ArgumentsMove (IsPast s f) (flight_promise s f).arguments (IsPast s g) (flight_outcome g) → ArgumentsAfter (suc n) x g
  arguments_next n x (Waiting y) g a m c = open_next n x (Waiting y) g a (λ e. absurd cc) (m.polled refl) c
  arguments_next n x (InFlight h) g a m c = open_next n x (InFlight h) g a (λ e. absurd cc) (m.polled refl) c
  arguments_next n x (Answered o) g a m c = subst (λ (z : FlightView S L D C K). ArgumentsAfter (suc n) x z) (sym (m.answered refl)) (answered_arguments n x o a)

  -- the call of a flight is the call of its exchange's entry
  lost_is : (f g : FlightView S L D C K) → FlightStep s f g → flight_outcome g ≡ NoMemory → g ≡ Answered NoMemory
  lost_is f (Waiting x) m e = absurd cc
  lost_is f (InFlight h) m e = absurd cc
  lost_is f (Answered o) m e = ap (λ z. Answered z) e

  come_now : (n : ℕ) (x : ExchangeView S L D C) (f : FlightView S L D C K) → ArgumentsAfter n x f → ArgumentsComeAt s x n → (k : ℕ) (z : Option V)
      → (flight_promise s f).arguments k z → IsValueNow k z
  come_now n x f a h k z b = now_untold (payload_feed s.feed x.body).marks (λ m. (s.promise (s.request x) m).arguments) n k z (gives_arguments n x f a k z b) h

  none_called : (n : ℕ) (x : ExchangeView S L D C) (f g : FlightView S L D C K) → ArgumentsAfter n x f → FlightStep s f g
      → (ComeNow (IsPast s f) (flight_promise s f).arguments → ⊥) → EntryCall s n (Some x) (g ≡ Answered NoMemory) None
  none_called n x (Waiting y) g a m c = inl (λ h. c (λ past. past, come_now n x (Waiting y) a h))
  none_called n x (InFlight k) g a m c = inl (λ h. c (λ past. not_come_at n x (a.1 past) h, come_now n x (InFlight k) a h))
  none_called n x (Answered (Replied r)) g a m c = inl (not_come_at n x a)
  none_called n x (Answered Unfinished) g a m c = absurd a
  none_called n x (Answered NoMemory) g a m c = inr (m.answered refl)

  entry_call : (n : ℕ) (x : ExchangeView S L D C) (f g : FlightView S L D C K) → ArgumentsAfter n x f → FlightStep s f g → (call : Option V)
      → IsCall (IsPast s f) (flight_promise s f).arguments (flight_outcome g) call → EntryCall s n (Some x) (g ≡ Answered NoMemory) call
  entry_call n x f g a m (Some v) c = let l : n + 0 ≡ n = omega arith in subst (λ (j : ℕ). ExchangeArguments s x j (Some v)) l (gives_arguments n x f a 0 (Some v) c)
  entry_call n x f g a m None (inr lacks) = inr (lost_is f g m lacks)
  entry_call n x f g a m None (inl c) = none_called n x f g a m c

  entry_lacks : (n : ℕ) (o : Option (ExchangeView S L D C)) (l m : Type 0) (call : Option V) → (l → m) → EntryCall s n o l call → EntryCall s n o m call
  entry_lacks n None l m call f h = h
  entry_lacks n (Some x) l m (Some v) f h = h
  entry_lacks n (Some x) l m None f (inl h) = inl h
  entry_lacks n (Some x) l m None f (inr h) = inr (f h)

  calls_lacks : (l m : ℕ → Type 0) → ((k : ℕ) → l k → m k) → (xs : List (ExchangeView S L D C)) (plan : List ℕ) (vs : List V) → AllowedCalls s l xs plan vs → AllowedCalls s m xs plan vs
  calls_lacks l m f xs plan vs h = (
    h.0,
    each_same (λ i k call. EntryCall s (poll_count (take i plan) k) (slice_get xs k) (l k) call) (λ i k call. EntryCall s (poll_count (take i plan) k) (slice_get xs k) (m k) call) 0 plan h.0
        (λ i k call a b e. entry_lacks (poll_count (take i plan) k) (slice_get xs k) (l k) (m k) call (f k) e) h.1,
    h.2,
  )

  -- one more entry at the end of the plan
  calls_end : (l : ℕ → Type 0) (xs : List (ExchangeView S L D C)) (p : List ℕ) (vs : List V) (k : ℕ) (call : Option V) → AllowedCalls s l xs p vs
      → EntryCall s (poll_count p k) (slice_get xs k) (l k) call → AllowedCalls s l xs (p ++ k ∷ []) (vs ++ cons_option call [])
  calls_end l xs p vs k call h e = (
    h.0 ++ call ∷ [],
    each_push (λ i j c. EntryCall s (poll_count (take i (p ++ k ∷ [])) j) (slice_get xs j) (l j) c) 0 p h.0 k call
        (let z : 0 + length p ≡ length p = omega arith in rw z (rw (take-append_seam p (k ∷ [])) e))
        (each_same (λ i j c. EntryCall s (poll_count (take i p) j) (slice_get xs j) (l j) c) (λ i j c. EntryCall s (poll_count (take i (p ++ k ∷ [])) j) (slice_get xs j) (l j) c) 0 p h.0
        (λ i j c a b d. let within : i ≤ length p = omega (arith, b) in rw (take-append-le i p (k ∷ []) within) d) h.1),
    rw h.2 (sym (filter_map-append (λ call. call) h.0 (call ∷ []))),
  )

  calls_at : (p : List ℕ) (k : ℕ) (xs : List (ExchangeView S L D C)) (mid new : List (FlightView S L D C K)) (a b : Pool L) (calls0 calls1 calls2 : Option (List V)) (o : Option (FlightView S L D C K)) → slice_get mid k ≡ o
      → MatchOption o (NoChange s mid new a b calls1 calls2) (λ f. (g : FlightView S L D C K) × (new ≡ slice_set mid k g) × FlightPoll s f g a b calls1 calls2)
      → EachFrom (λ j x f. ArgumentsAfter (poll_count p j) x f) 0 xs mid → AppendsCalls calls0 calls1 (λ vs. AllowedCalls s (FlightLacksMemory mid) xs p vs)
      → EachFrom (λ j x f. ArgumentsAfter (poll_count (p ++ k ∷ []) j) x f) 0 xs new × AppendsCalls calls0 calls2 (λ vs. AllowedCalls s (FlightLacksMemory new) xs (p ++ k ∷ []) vs)
  calls_at p k xs mid new a b calls0 calls1 calls2 None e m h c =
      let none = each_get_none (λ j x f. ArgumentsAfter (poll_count p j) x f) 0 xs mid k e h in (
        rw m.flights (each_none (λ j x f. ArgumentsAfter (poll_count p j) x f) (λ j x f. ArgumentsAfter (poll_count (p ++ k ∷ []) j) x f) 0 xs mid k e
            (λ j x f n t. let ne : j ≢ k = omega arith in rw (polls_other p k j ne) t) h),
        rw (m.flights, m.calls) (appends_next calls0 calls1 calls1 None
            (λ vs. AllowedCalls s (FlightLacksMemory mid) xs p vs) (λ vs. AllowedCalls s (FlightLacksMemory mid) xs (p ++ k ∷ []) vs)
            (λ vs t. calls_end (FlightLacksMemory mid) xs p vs k None t (rw none refl)) c (calls_same calls1)),
      )
  calls_at p k xs mid new a b calls0 calls1 calls2 (Some f) e m h c =
      let got = each_get (λ j x f. ArgumentsAfter (poll_count p j) x f) 0 xs mid k f e h in
      let z : 0 + k ≡ k = omega arith in
      let here : ArgumentsAfter (poll_count p k) got.0 f = subst (λ (j : ℕ). ArgumentsAfter (poll_count p j) got.0 f) z got.2 in
      let step = m.2.step in
      let calls = m.2.calls in
      let keep : (j : ℕ) → FlightLacksMemory mid j → FlightLacksMemory new j =
      λ j l. rw m.1 (get_kept mid k j f m.0 (Answered NoMemory) e (λ q. stays_answered f m.0 NoMemory q step) l) in
      let lack : m.0 ≡ Answered NoMemory → FlightLacksMemory new k = λ q. rw m.1 (get_set mid k f m.0 e ∙ ap Some q) in
      let entry : EntryCall s (poll_count p k) (slice_get xs k) (FlightLacksMemory new k) calls.0 =
      rw got.1 (entry_lacks (poll_count p k) (Some got.0) (m.0 ≡ Answered NoMemory) (FlightLacksMemory new k) calls.0 lack
      (entry_call (poll_count p k) got.0 f m.0 here step calls.0 calls.2)) in (
        rw m.1 (each_set (λ j x f. ArgumentsAfter (poll_count p j) x f) (λ j x f. ArgumentsAfter (poll_count (p ++ k ∷ []) j) x f) 0 xs mid k f m.0 e
            (λ x t. rw (z, polls_here p k) (arguments_next (poll_count p k) x f m.0 (rw z at t) step calls.3))
            (λ j x f n t. let ne : j ≢ k = omega arith in rw (polls_other p k j ne) t) h),
        appends_next calls0 calls1 calls2 calls.0
            (λ vs. AllowedCalls s (FlightLacksMemory mid) xs p vs) (λ vs. AllowedCalls s (FlightLacksMemory new) xs (p ++ k ∷ []) vs)
            (λ vs t. calls_end (FlightLacksMemory new) xs p vs k calls.0
            (calls_lacks (FlightLacksMemory mid) (FlightLacksMemory new) keep xs p vs t) entry)
            c calls.1,
      )

  pub calls_next : (p : List ℕ) (k : ℕ) (old mid new : List (FlightView S L D C K)) (a b : Pool L) (calls0 calls1 calls2 : Option (List V)) → CallsAfter p old mid calls0 calls1
      → PollsAt s k mid new a b calls1 calls2 → CallsAfter (p ++ k ∷ []) old new calls0 calls2
  calls_next p k old mid new a b calls0 calls1 calls2 r m xs e = let h = r xs e in calls_at p k xs mid new a b calls0 calls1 calls2 (slice_get mid k) refl m h.0 h.1

  start_from : (i : ℕ) (xs : List (ExchangeView S L D C)) → EachFrom (λ k x f. ArgumentsAfter 0 x f) i xs (map (λ x. Waiting x) xs)
  start_from i [] = tt
  start_from i (x ∷ xs) = ((refl, refl), start_from (i + 1) xs)

  appends_none : (l : ℕ → Type 0) (xs : List (ExchangeView S L D C)) (calls : Option (List V)) → AppendsCalls calls calls (λ vs. AllowedCalls s l xs [] vs)
  appends_none l xs None = refl
  appends_none l xs (Some old) = ([], ap Some (sym (append-nil old)), ([], tt, refl))

  pub calls_start : (fs : List (FlightView S L D C K)) (calls : Option (List V)) → CallsAfter [] fs fs calls calls
  calls_start fs calls xs e = (rw e (start_from 0 xs), appends_none (FlightLacksMemory fs) xs calls)

  -- where a flight lacks memory, so does its outcome
  outcome_lacks : (fs : List (FlightView S L D C K)) (k : ℕ) → FlightLacksMemory fs k → LacksMemory (map flight_outcome fs) k
  outcome_lacks [] k l = absurd cc
  outcome_lacks (f ∷ fs) zero l =
      let v : f ≡ Answered NoMemory = cc in
      ap Some (ap (λ (g : FlightView S L D C K). flight_outcome g) v)
  outcome_lacks (f ∷ fs) (suc k) l = outcome_lacks fs k l

  pub allowed_calls : (plan : List ℕ) (xs : List (ExchangeView S L D C)) (start fs : List (FlightView S L D C K)) (calls_old calls_new : Option (List V)) → start ≡ map (λ x. Waiting x) xs
      → CallsAfter plan start fs calls_old calls_new → AppendsCalls calls_old calls_new (λ vs. AllowedCalls s (LacksMemory (map flight_outcome fs)) xs plan vs)
  allowed_calls plan xs start fs calls_old calls_new e r =
      appends_as calls_old calls_new (λ vs. AllowedCalls s (FlightLacksMemory fs) xs plan vs) (λ vs. AllowedCalls s (LacksMemory (map flight_outcome fs)) xs plan vs)
      (λ vs c. calls_lacks (FlightLacksMemory fs) (LacksMemory (map flight_outcome fs)) (outcome_lacks fs) xs plan vs c) (r xs e).1
