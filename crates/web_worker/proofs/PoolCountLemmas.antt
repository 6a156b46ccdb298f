-- What stays of the pool over a plan, how many records it makes, and which allocations failed.
use Rattle.std.proofs.Common.{◌≡◌, ℕ, zero, suc, ◌+◌, ◌≤◌, Bool, true, false, cond, ◌||◌, List, [], ◌∷◌, map, length, refl, sym, ◌∙◌, ap, arith, subst, inl, inr}
use Rattle.std.specs.Prelude.{Option, None, Some, MatchOption, slice_get, slice_set}
use Rattle.std.specs.List.{list_any}
use Rattle.web_request.specs.Pool.{Pool, after_start, made_after, next_serial}
use Rattle.web_worker.specs.Outcomes.{OutcomeView.NoMemory}
use Rattle.web_worker.specs.Exchanges.{ExchangeView, FlightView}
use Rattle.web_worker.specs.Exchanges.{FlightView.Waiting, FlightView.InFlight, FlightView.Answered}
use Rattle.web_worker.specs.ServicePromises.{Promise}
use Rattle.web_worker.specs.Setting.{Setting}
use Rattle.web_worker.specs.Flights.{FlightStep, PollResult, exchange_promise}
use Rattle.web_worker.specs.PollOne.{PollsAt, NoChange, FlightPoll}
use Rattle.web_worker.specs.PoolSteps.{TakesOrReturns, after_release, serial_of}
use Rattle.web_worker.specs.PlanPools.{with_records}
use Rattle.web_worker.specs.PlanOutcomes.{lacks_memory}
use Rattle.web_worker.specs.RecordsMade.{is_waiting, waiting_count, may_make}

-- ---- root, configuration, capacity and whether it is enabled stay

back_rest : {L : Type 0} (o w : Option ℕ) (p : Pool L) → after_release o w p ≡ with_records (after_release o w p).serials (after_release o w p).made p
back_rest None w p = refl
back_rest (Some n) None p = refl
back_rest (Some n) (Some m) p = refl

back_made : {L : Type 0} (o w : Option ℕ) (p : Pool L) → (after_release o w p).made ≡ p.made
back_made None w p = refl
back_made (Some n) None p = refl
back_made (Some n) (Some m) p = refl

back_as : {L : Type 0} (o w : Option ℕ) (p q : Pool L) → q ≡ after_release o w p → q ≡ with_records q.serials q.made p
back_as o w p q e = subst (λ (z : Pool _). z ≡ with_records z.serials z.made p) (sym e) (back_rest o w p)

same_rest : {L : Type 0} (p q : Pool L) → q ≡ p → q ≡ with_records q.serials q.made p
same_rest p q e = subst (λ (z : Pool _). z ≡ with_records z.serials z.made p) (sym e) refl

made_most : (n : ℕ) (xs : List ℕ) → made_after n xs ≤ n + 1
made_most n [] = omega arith
made_most n (x ∷ xs) = omega arith

abbrev one_if : Bool → ℕ
one_if b = cond b 1 0

module _ {S L D C V K : Type 0} (s : Setting S L D C V K) where
  moves_rest : (f g : FlightView S L D C K) (p q : Pool L) → TakesOrReturns f g p q → q ≡ with_records q.serials q.made p
  moves_rest (Waiting x) g p q (inl e) = back_as (Some (next_serial p)) (serial_of g) (after_start p) q e.0
  moves_rest (Waiting x) g p q (inr e) = same_rest p q e.0
  moves_rest (InFlight h) g p q e = back_as (Some h.record_of.serial) (serial_of g) p q e.0
  moves_rest (Answered o) g p q e = same_rest p q e

  pub polls_rest : (k : ℕ) (old new : List (FlightView S L D C K)) (p q : Pool L) (calls_old calls_new : Option (List V)) → PollsAt s k old new p q calls_old calls_new
      → q ≡ with_records q.serials q.made p
  polls_rest k old new p q calls_old calls_new m = at (slice_get old k) m
    where
      at : (o : Option (FlightView S L D C K)) → MatchOption o (NoChange s old new p q calls_old calls_new) (λ f. (g : FlightView S L D C K) × (new ≡ slice_set old k g) × FlightPoll s f g p q calls_old calls_new)
          → q ≡ with_records q.serials q.made p
      at None m = same_rest p q m.pool
      at (Some f) m = moves_rest f m.0 p q m.2.moves

  -- ---- how many records are made

  polled_waits : (p : Promise V) (g : FlightView S L D C K) → PollResult s p g → is_waiting g ≡ false
  polled_waits p (Waiting x) r = absurd r
  polled_waits p (InFlight h) r = refl
  polled_waits p (Answered o) r = refl

  back_most : (o w : Option ℕ) (g : FlightView S L D C K) (p q : Pool L) → q ≡ after_release o w p → is_waiting g ≡ false → q.made + one_if (is_waiting g) ≤ p.made
  back_most o w g p q e n =
      let made : q.made ≡ p.made = ap (λ (z : Pool L). z.made) e ∙ back_made o w p in
      rw n (omega (arith, made))

  moves_most : (f g : FlightView S L D C K) (p q : Pool L) → FlightStep s f g → TakesOrReturns f g p q → q.made + one_if (is_waiting g) ≤ p.made + one_if (is_waiting f)
  moves_most (Waiting x) g p q step (inl e) =
      let most = back_most (Some (next_serial p)) (serial_of g) g (after_start p) q e.0 (polled_waits (exchange_promise s x) g (step.polled refl)) in
      let start = made_most p.made p.serials in
      omega (arith, most, start)
  moves_most (Waiting x) g p q step (inr e) =
      let n = polled_waits (exchange_promise s x) g (step.polled refl) in
      let made : q.made ≡ p.made = ap (λ (z : Pool L). z.made) e.0 in
      rw n (omega (arith, made))
  moves_most (InFlight h) g p q step e = let most = back_most (Some h.record_of.serial) (serial_of g) g p q e.0 (polled_waits (s.left h.call h.record_of.request) g (step.polled refl)) in omega (arith, most)
  moves_most (Answered o) g p q step e =
      let made : q.made ≡ p.made = ap (λ (z : Pool L). z.made) e in
      rw (step.answered refl) (omega (arith, made))

  waiting_set : (fs : List (FlightView S L D C K)) (k : ℕ) (f g : FlightView S L D C K) → slice_get fs k ≡ Some f
      → waiting_count (slice_set fs k g) + one_if (is_waiting f) ≡ waiting_count fs + one_if (is_waiting g)
  waiting_set [] k f g e = absurd cc
  waiting_set (h ∷ fs) zero f g e = let q : h ≡ f = cc in rw q (omega arith)
  waiting_set (h ∷ fs) (suc k) f g e = let q = waiting_set fs k f g e in omega (arith, q)

  most_at : (k : ℕ) (old new : List (FlightView S L D C K)) (p q : Pool L) (calls_old calls_new : Option (List V)) (o : Option (FlightView S L D C K)) → slice_get old k ≡ o
      → MatchOption o (NoChange s old new p q calls_old calls_new) (λ f. (g : FlightView S L D C K) × (new ≡ slice_set old k g) × FlightPoll s f g p q calls_old calls_new)
      → q.made + waiting_count new ≤ p.made + waiting_count old
  most_at k old new p q calls_old calls_new None e m =
      let made : q.made ≡ p.made = ap (λ (z : Pool L). z.made) m.pool in
      rw m.flights (omega (arith, made))
  most_at k old new p q calls_old calls_new (Some f) e m =
      let count = waiting_set old k f m.0 e in
      let most = moves_most f m.0 p q m.2.step m.2.moves in
      rw m.1 (omega (arith, count, most))

  pub polls_most : (k : ℕ) (old new : List (FlightView S L D C K)) (p q : Pool L) (calls_old calls_new : Option (List V)) → PollsAt s k old new p q calls_old calls_new
      → q.made + waiting_count new ≤ p.made + waiting_count old
  polls_most k old new p q calls_old calls_new m = most_at k old new p q calls_old calls_new (slice_get old k) refl m

made_least : (n : ℕ) (xs : List ℕ) → n ≤ made_after n xs
made_least n [] = omega arith
made_least n (x ∷ xs) = omega arith

same_made : {L : Type 0} (p q : Pool L) → q ≡ p → p.made ≤ q.made
same_made p q e = let made : q.made ≡ p.made = ap (λ (z : Pool _). z.made) e in omega (arith, made)

back_least : {L : Type 0} (o w : Option ℕ) (p q : Pool L) → q ≡ after_release o w p → p.made ≤ q.made
back_least o w p q e = let made : q.made ≡ p.made = ap (λ (z : Pool _). z.made) e ∙ back_made o w p in omega (arith, made)

module _ {S L D C V K : Type 0} (s : Setting S L D C V K) where
  moves_least : (f g : FlightView S L D C K) (p q : Pool L) → TakesOrReturns f g p q → p.made ≤ q.made
  moves_least (Waiting x) g p q (inl e) =
      let least = back_least (Some (next_serial p)) (serial_of g) (after_start p) q e.0 in
      let start = made_least p.made p.serials in
      omega (arith, least, start)
  moves_least (Waiting x) g p q (inr e) = same_made p q e.0
  moves_least (InFlight h) g p q e = back_least (Some h.record_of.serial) (serial_of g) p q e.0
  moves_least (Answered o) g p q e = same_made p q e

  least_at : (k : ℕ) (old new : List (FlightView S L D C K)) (p q : Pool L) (calls_old calls_new : Option (List V)) (o : Option (FlightView S L D C K))
      → MatchOption o (NoChange s old new p q calls_old calls_new) (λ f. (g : FlightView S L D C K) × (new ≡ slice_set old k g) × FlightPoll s f g p q calls_old calls_new)
      → p.made ≤ q.made
  least_at k old new p q calls_old calls_new None m = same_made p q m.pool
  least_at k old new p q calls_old calls_new (Some f) m = moves_least f m.0 p q m.2.moves

  pub polls_least : (k : ℕ) (old new : List (FlightView S L D C K)) (p q : Pool L) (calls_old calls_new : Option (List V)) → PollsAt s k old new p q calls_old calls_new → p.made ≤ q.made
  polls_least k old new p q calls_old calls_new m = least_at k old new p q calls_old calls_new (slice_get old k) m

pub room : {S L D C K : Type 0} (fs : List (FlightView S L D C K)) (k : ℕ) → may_make (slice_get fs k) ≤ waiting_count fs
room [] k = omega arith
room (h ∷ fs) zero = omega arith
room (h ∷ fs) (suc k) = let q = room fs k in omega arith

-- ---- a flight that lacked memory stays so

-- an allocation failed at a poll of the flight
abbrev pub is_lost : {S L D C K : Type 0} → FlightView S L D C K → Bool
is_lost (Waiting x) = false
is_lost (InFlight h) = false
is_lost (Answered o) = lacks_memory o

or_false : (a b : Bool) → (a || b) ≡ false → (a ≡ false) × (b ≡ false)
or_false true b e = absurd cc
or_false false b e = (refl, e)

pub none_lost : {S L D C K : Type 0} (fs : List (FlightView S L D C K)) (k : ℕ) (g : FlightView S L D C K) → list_any is_lost fs ≡ false → slice_get fs k ≡ Some g → g ≡ Answered NoMemory → ⊥
none_lost [] k g n e lost = absurd cc
none_lost (h ∷ fs) zero g n e lost =
    let two = or_false (is_lost h) (list_any is_lost fs) n in
    let same : h ≡ Answered NoMemory = cc in
    let yes : is_lost h ≡ true = ap is_lost same in
    let no = two.0 in absurd (cc)
none_lost (h ∷ fs) (suc k) g n e lost = none_lost fs k g (or_false (is_lost h) (list_any is_lost fs) n).1 e lost

module _ {S L D C V K : Type 0} (s : Setting S L D C V K) where
  stays : (f g : FlightView S L D C K) → FlightStep s f g → is_lost g ≡ false → is_lost f ≡ false
  stays (Waiting x) g step n = refl
  stays (InFlight h) g step n = refl
  stays (Answered o) g step n = ap is_lost (sym (step.answered refl)) ∙ n

  both_false : (a b : Bool) → a ≡ false → b ≡ false → (a || b) ≡ false
  both_false true b e f = e
  both_false false b e f = f

  before_set : (fs : List (FlightView S L D C K)) (k : ℕ) (f g : FlightView S L D C K) → slice_get fs k ≡ Some f → FlightStep s f g → list_any is_lost (slice_set fs k g) ≡ false → list_any is_lost fs ≡ false
  before_set [] k f g e step n = absurd cc
  before_set (h ∷ fs) zero f g e step n =
      let two = or_false (is_lost g) (list_any is_lost fs) n in
      let same : h ≡ f = cc in
      both_false (is_lost h) (list_any is_lost fs) (ap is_lost same ∙ stays f g step two.0) two.1
  before_set (h ∷ fs) (suc k) f g e step n =
      let two = or_false (is_lost h) (list_any is_lost (slice_set fs k g)) n in
      both_false (is_lost h) (list_any is_lost fs) two.0 (before_set fs k f g e step two.1)

  before_at : (k : ℕ) (old new : List (FlightView S L D C K)) (p q : Pool L) (calls_old calls_new : Option (List V)) (o : Option (FlightView S L D C K)) → slice_get old k ≡ o
      → MatchOption o (NoChange s old new p q calls_old calls_new) (λ f. (g : FlightView S L D C K) × (new ≡ slice_set old k g) × FlightPoll s f g p q calls_old calls_new)
      → list_any is_lost new ≡ false → list_any is_lost old ≡ false
  before_at k old new p q calls_old calls_new None e m n = ap (λ (l : List (FlightView S L D C K)). list_any is_lost l) (sym m.flights) ∙ n
  before_at k old new p q calls_old calls_new (Some f) e m n =
      before_set old k f m.0 e m.2.step (ap (λ (l : List (FlightView S L D C K)). list_any is_lost l) (sym m.1) ∙ n)

  pub lost_before : (k : ℕ) (old new : List (FlightView S L D C K)) (p q : Pool L) (calls_old calls_new : Option (List V)) → PollsAt s k old new p q calls_old calls_new
      → list_any is_lost new ≡ false → list_any is_lost old ≡ false
  lost_before k old new p q calls_old calls_new m n = before_at k old new p q calls_old calls_new (slice_get old k) refl m n

-- flights of exchanges that wait are as many as these
pub waiting_start : {S L D C K : Type 0} (fs : List (FlightView S L D C K)) (xs : List (ExchangeView S L D C)) → fs ≡ map (λ x. Waiting x) xs → waiting_count fs ≡ length xs
waiting_start {S} {L} {D} {C} {K} fs xs e = rw e (waiting_map xs)
  where
    waiting_map : (xs : List (ExchangeView S L D C)) → waiting_count {K = K} (map (λ x. Waiting x) xs) ≡ length xs
    waiting_map [] = refl
    waiting_map (x ∷ xs) = let h = waiting_map xs in omega (arith, h)
