-- One poll of a flight is one entry of the pool run, whose delay is the number of polls at which the flight is answered.
use Rattle.std.proofs.Common.{◌≡◌, ◌==◌, ℕ, suc, ◌+◌, ◌<◌, ◌≤◌, ◌≢◌, Bool, false, cond, List, [], ◌∷◌, ◌++◌, length, refl, sym, ◌∙◌, ap, arith, subst, ◌⊎◌, inl, inr, append_assoc, append-nil, eq-eqb, ne_eqb}
use Rattle.std.specs.Prelude.{Option, None, Some, slice_get}
use Rattle.std.proofs.lemmas.Bool.{cases_eq}
use Rattle.std.proofs.lemmas.List.{length-set}
use Rattle.std.proofs.lemmas.Option.{slice_get_within}
use Rattle.web_request.specs.Pool.{Pool, after_start, next_serial}
use Rattle.web_worker.specs.Outcomes.{OutcomeView, OutcomeView.Replied, OutcomeView.Unfinished, OutcomeView.NoMemory}
use Rattle.web_worker.specs.Exchanges.{ExchangeView, FlightView}
use Rattle.web_worker.specs.Exchanges.{FlightView.Waiting, FlightView.InFlight, FlightView.Answered}
use Rattle.web_worker.specs.ServicePromises.{Narrows, Promise, later}
use Rattle.web_worker.specs.Setting.{Setting}
use Rattle.web_worker.specs.Flights.{ExchangeGives, FlightStep, PollResult, exchange_promise, flight_outcome}
use Rattle.web_worker.specs.PlanOutcomes.{poll_count}
use Rattle.web_worker.specs.PlanPools.{AllowedDelay}
use Rattle.web_worker.specs.PoolSteps.{TakesOrReturns, HeldOrReturned, serial_of}
use Rattle.web_worker.specs.PoolRun.{SerialState, run_entry, run_entry_at, hold_or_return, run_entries, serial_state}
use Rattle.web_worker.proofs.NumberedPairsLemmas.{polls_here}
use Rattle.web_worker.proofs.PlanProgressLemmas.{FlightAfter, none_later}

pub unequal : (n d : ℕ) → suc n ≤ d → (n == d) ≡ false
unequal n d h = ne_eqb n d (λ e. omega (arith, e, h))

-- ---- entries

-- one more entry at the end
pub run_end : {L : Type 0} (delay : ℕ → ℕ) (p : Pool L) (ss : List SerialState) (done plan : List ℕ) (k : ℕ)
    → run_entries delay p ss done (plan ++ k ∷ [])
    ≡ run_entry_at (run_entries delay p ss done plan).0 (run_entries delay p ss done plan).1 k (poll_count (done ++ plan) k == delay k) (slice_get (run_entries delay p ss done plan).1 k)
run_end delay p ss done [] k = rw (append-nil done) refl
run_end delay p ss done (j ∷ plan) k =
    let next = run_entry_at p ss j (poll_count done j == delay j) (slice_get ss j) in
    run_end delay next.0 next.1 (done ++ j ∷ []) plan k
    ∙ ap (λ (js : List ℕ). run_entry_at (run_entries delay next.0 next.1 (done ++ j ∷ []) plan).0 (run_entries delay next.0 next.1 (done ++ j ∷ []) plan).1 k (poll_count js k == delay k) (slice_get (run_entries delay next.0 next.1 (done ++ j ∷ []) plan).1 k)) (append_assoc done (j ∷ []) plan)

polls_join : (xs ys : List ℕ) (k : ℕ) → poll_count (xs ++ ys) k ≡ poll_count xs k + poll_count ys k
polls_join [] ys k = omega arith
polls_join (x ∷ xs) ys k = let h = polls_join xs ys k in omega (arith, h)

fewer_before : (done plan : List ℕ) (k : ℕ) → poll_count done k < poll_count (done ++ k ∷ plan) k
fewer_before done plan k =
    let here = polls_here done k in
    let both = polls_join (done ++ k ∷ []) plan k in
    let lt : poll_count done k < poll_count ((done ++ k ∷ []) ++ plan) k = omega (arith, here, both) in
    subst (λ (js : List ℕ). poll_count done k < poll_count js k) (append_assoc done (k ∷ []) plan) lt

module _ {L : Type 0} where
  entry_same : (p : Pool L) (ss : List SerialState) (k : ℕ) (a b : Bool) → (k < length ss → a ≡ b) → (o : Option SerialState) → slice_get ss k ≡ o → run_entry_at p ss k a o ≡ run_entry_at p ss k b o
  entry_same p ss k a b same None e = refl
  entry_same p ss k a b same (Some s) e = ap (λ (t : Bool). run_entry_at p ss k t (Some s)) (same (slice_get_within ss k s e))

  as_long : (p : Pool L) (ss : List SerialState) (k : ℕ) (a : Bool) (o : Option SerialState) → length (run_entry_at p ss k a o).1 ≡ length ss
  as_long p ss k a None = refl
  as_long p ss k a (Some s) = length-set ss k (run_entry p s a).1

  -- with other delays the entries are the same, where each of them answers its exchange or not as before
  pub run_same : (delay other : ℕ → ℕ) (p : Pool L) (ss : List SerialState) (done plan : List ℕ)
      → ((k n : ℕ) → k < length ss → n < poll_count (done ++ plan) k → (n == delay k) ≡ (n == other k)) → run_entries delay p ss done plan ≡ run_entries other p ss done plan
  run_same delay other p ss done [] same = refl
  run_same delay other p ss done (k ∷ plan) same =
      let n = poll_count done k in
      let next = run_entry_at p ss k (n == other k) (slice_get ss k) in
      let size = as_long p ss k (n == other k) (slice_get ss k) in
      ap (λ (z : Pool L × List SerialState). run_entries delay z.0 z.1 (done ++ k ∷ []) plan) (entry_same p ss k (n == delay k) (n == other k) (λ within. same k n within (fewer_before done plan k)) (slice_get ss k) refl)
      ∙ run_same delay other next.0 next.1 (done ++ k ∷ []) plan
      (λ j m within lt. same j m (omega (arith, within, size)) (subst (λ (js : List ℕ). m < poll_count js j) (append_assoc done (k ∷ []) plan) lt))

-- the delays with d for exchange k
abbrev pub delay_set : (ℕ → ℕ) → ℕ → ℕ → ℕ → ℕ
delay_set delay k d j = cond (j == k) d (delay j)

pub set_here : (delay : ℕ → ℕ) (k d : ℕ) → delay_set delay k d k ≡ d
set_here delay k d = rw (eq-eqb k k refl) refl

pub set_other : (delay : ℕ → ℕ) (k d j : ℕ) → j ≢ k → delay_set delay k d j ≡ delay j
set_other delay k d j ne = rw (ne_eqb j k ne) refl

-- another delay of exchange k leaves the entries of a plan, where they answer it or not as before
pub set_same : (delay : ℕ → ℕ) (plan : List ℕ) (k d : ℕ) → ((n : ℕ) → n < poll_count plan k → (n == delay k) ≡ (n == d))
    → (j n : ℕ) → n < poll_count plan j → (n == delay j) ≡ (n == delay_set delay k d j)
set_same delay plan k d same j n lt = by (cases_eq j k)
  where
    by : (j ≡ k) ⊎ (j ≡ k → ⊥) → (n == delay j) ≡ (n == delay_set delay k d j)
    by (inl e) =
        let here : n < poll_count plan k = subst (λ (i : ℕ). n < poll_count plan i) e lt in
        subst (λ (i : ℕ). (n == delay i) ≡ (n == delay_set delay k d i)) (sym e) (same n here ∙ ap (λ (m : ℕ). n == m) (sym (set_here delay k d)))
    by (inr ne) = ap (λ (m : ℕ). n == m) (sym (set_other delay k d j ne))

-- ---- one poll

abbrev pub IsLost : {S L D C K : Type 0} → FlightView S L D C K → Type 0
IsLost g = g ≡ Answered NoMemory

module _ {S L D C K : Type 0} where
  -- the delay of a flight that the poll after n others left so: it is answered now, or at a later one
  abbrev pub delay_now : ℕ → FlightView S L D C K → ℕ
  delay_now n (Waiting x) = suc n
  delay_now n (InFlight h) = suc n
  delay_now n (Answered o) = n

  -- the delay d of a flight that was answered stays
  abbrev pub delay_next : ℕ → ℕ → FlightView S L D C K → FlightView S L D C K → ℕ
  delay_next n d (Waiting x) g = delay_now n g
  delay_next n d (InFlight h) g = delay_now n g
  delay_next n d (Answered o) g = d

  not_below : (n : ℕ) (g : FlightView S L D C K) → n ≤ delay_now n g
  not_below n (Waiting x) = omega arith
  not_below n (InFlight h) = omega arith
  not_below n (Answered o) = omega arith

  both_later : (n d m : ℕ) (g : FlightView S L D C K) → n ≤ d → m < n → (m == d) ≡ (m == delay_now n g)
  both_later n d m g le lt =
      let now = not_below n g in
      let first : suc m ≤ d = omega (arith, le, lt) in
      let second : suc m ≤ delay_now n g = omega (arith, now, lt) in
      unequal m d first ∙ sym (unequal m (delay_now n g) second)

module _ {S L D C V K : Type 0} (s : Setting S L D C V K) where
  -- no poll before this one answers otherwise
  pub same_before : (n d : ℕ) (x : ExchangeView S L D C) (f g : FlightView S L D C K) → AllowedDelay s n x (flight_outcome f) d
      → (m : ℕ) → m < n → (m == d) ≡ (m == delay_next n d f g)
  same_before n d x (Waiting y) g fits m lt = both_later n d m g fits lt
  same_before n d x (InFlight h) g fits m lt = both_later n d m g fits lt
  same_before n d x (Answered o) g fits m lt = refl

  result_fits : (n : ℕ) (x : ExchangeView S L D C) (p : Promise V) (g : FlightView S L D C K) → Narrows p (later n (exchange_promise s x)) → PollResult s p g → (IsLost g → ⊥)
      → AllowedDelay s (suc n) x (flight_outcome g) (delay_now n g)
  result_fits n x p (Waiting y) after result kept = absurd result
  result_fits n x p (InFlight h) after result kept = omega arith
  result_fits n x p (Answered (Replied r)) after result kept = let e : n + 0 ≡ n = omega arith in (omega arith, subst (λ (m : ℕ). ExchangeGives s x m r) e (after.gives 0 r result))
  result_fits n x p (Answered Unfinished) after result kept = absurd result
  result_fits n x p (Answered NoMemory) after result kept = absurd (kept refl)

  answered_fits : (n d : ℕ) (x : ExchangeView S L D C) (o : OutcomeView) → FlightAfter s n x (Answered o) → AllowedDelay s n x o d → AllowedDelay s (suc n) x o d
  answered_fits n d x (Replied r) at fits = let lt : d < suc n = omega (arith, fits.0) in (lt, fits.1)
  answered_fits n d x Unfinished at fits = absurd at
  answered_fits n d x NoMemory at fits = fits

  -- the delay agrees with what the poll made of the flight
  pub step_fits : (n d : ℕ) (x : ExchangeView S L D C) (f g : FlightView S L D C K) → FlightStep s f g → (IsLost g → ⊥) → FlightAfter s n x f
      → AllowedDelay s n x (flight_outcome f) d → AllowedDelay s (suc n) x (flight_outcome g) (delay_next n d f g)
  step_fits n d x (Waiting y) g step kept at fits =
      let result = subst (λ (z : ExchangeView S L D C). PollResult s (exchange_promise s z) g) at.0 (step.polled refl) in
      result_fits n x (exchange_promise s x) g (none_later (exchange_promise s x) n at.1) result kept
  step_fits n d x (InFlight h) g step kept at fits = result_fits n x (s.left h.call h.record_of.request) g at.1 (step.polled refl) kept
  step_fits n d x (Answered o) g step kept at fits = subst (λ (z : FlightView S L D C K). AllowedDelay s (suc n) x (flight_outcome z) d) (sym (step.answered refl)) (answered_fits n d x o at fits)

  -- where the flight has taken or holds the record y of the pool p
  polled : (n y : ℕ) (f : Promise V) (g : FlightView S L D C K) (p q : Pool L) → PollResult s f g → HeldOrReturned (Some y) (serial_of g) p q
      → hold_or_return p y (n == delay_now n g) ≡ (q, serial_state g)
  polled n y f (Waiting x) p q result back = absurd result
  polled n y f (InFlight h) p q result back = rw (unequal n (suc n) (omega arith), back.0, back.1) refl
  polled n y f (Answered o) p q result back = rw (eq-eqb n n refl, back.0) refl

  -- one poll of a flight is one entry of the pool run with that delay, where no allocation failed
  pub state_step : (n d : ℕ) (f g : FlightView S L D C K) (p q : Pool L) → FlightStep s f g → TakesOrReturns f g p q → (IsLost g → ⊥)
      → run_entry p (serial_state f) (n == delay_next n d f g) ≡ (q, serial_state g)
  state_step n d (Waiting x) g p q step (inl back) kept = polled n (next_serial p) (exchange_promise s x) g (after_start p) q (step.polled refl) back
  state_step n d (Waiting x) g p q step (inr lost) kept = absurd (kept lost.1)
  state_step n d (InFlight h) g p q step moves kept = polled n h.record_of.serial (s.left h.call h.record_of.request) g p q (step.polled refl) moves
  state_step n d (Answered o) g p q step moves kept = rw (step.answered refl, moves) refl
