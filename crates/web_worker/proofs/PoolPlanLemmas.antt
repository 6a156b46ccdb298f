-- The pool over a plan.
use Rattle.std.proofs.Common.{◌≡◌, ◌==◌, ℕ, ◌+◌, ◌<◌, ◌≢◌, false, List, [], ◌∷◌, ◌++◌, map, refl, sym, ◌∙◌, ap, arith, subst}
use Rattle.std.specs.Prelude.{Option, None, Some, MatchOption, slice_get, slice_set}
use Rattle.std.specs.List.{list_any}
use Rattle.std.proofs.lemmas.List.{map-set}
use Rattle.std.proofs.lemmas.Option.{slice_get-map}
use Rattle.web_request.specs.Pool.{Pool}
use Rattle.web_worker.specs.Outcomes.{OutcomeView}
use Rattle.web_worker.specs.Exchanges.{ExchangeView, FlightView, FlightView.Waiting}
use Rattle.web_worker.specs.Setting.{Setting}
use Rattle.web_worker.specs.Flights.{FlightStep, flight_outcome}
use Rattle.web_worker.specs.PlanOutcomes.{EachFrom, lacks_memory, poll_count}
use Rattle.web_worker.specs.PollOne.{FlightPoll, NoChange, PollsAt}
use Rattle.web_worker.specs.PoolRun.{SerialState, NotTaken, return_held, run_entries, run_entry_at, serial_state}
use Rattle.web_worker.specs.PlanPools.{AllowedDelay, AllowedPool, with_records}
use Rattle.web_worker.specs.PoolSteps.{TakesOrReturns}
use Rattle.web_worker.proofs.NumberedPairsLemmas.{each_both, each_get, each_map, each_none, each_set, get_set, polls_here, polls_other}
use Rattle.web_worker.proofs.PlanProgressLemmas.{FlightAfter, FlightsAfter}
use Rattle.web_worker.proofs.PoolCountLemmas.{is_lost, lost_before, none_lost}
use Rattle.web_worker.proofs.PoolEndLemmas.{lost_outcomes, waits_map}
use Rattle.web_worker.proofs.PoolRunLemmas.{IsLost, delay_next, delay_set, run_end, run_same, same_before, set_here, set_other, set_same, state_step, step_fits}

module _ {S L D C V K : Type 0} (s : Setting S L D C V K) where
  -- the delay of exchange k agrees with what the plan made of its flight
  abbrev pub Fits : (ℕ → ℕ) → List ℕ → ℕ → ExchangeView S L D C → FlightView S L D C K → Type 0
  Fits delay plan k x f = AllowedDelay s (poll_count plan k) x (flight_outcome f) (delay k)

  -- a plan, delays that agree with what it made of the flights, and its pool run
  pub record RunWith (delay : ℕ → ℕ) (plan : List ℕ) (xs : List (ExchangeView S L D C)) (fs : List (FlightView S L D C K)) (p : Pool L) (ss : List SerialState) (q : Pool L) : Type 0 where
    pub fit : EachFrom (Fits delay plan) 0 xs fs
    pub ran : run_entries delay p ss [] plan ≡ (q, map serial_state fs)

  module _ (plan : List ℕ) (k : ℕ) (xs : List (ExchangeView S L D C)) (delay : ℕ → ℕ) (p : Pool L) (ss : List SerialState) (a b : Pool L) where
    -- an entry that names no exchange
    idle_run : (mid new : List (FlightView S L D C K)) → slice_get mid k ≡ None → new ≡ mid → b ≡ a
        → RunWith delay plan xs mid p ss a → RunWith delay (plan ++ k ∷ []) xs new p ss b
    idle_run mid new e same pool run =
        rw (same, pool) (record {
          fit = each_none (Fits delay plan) (Fits delay (plan ++ k ∷ [])) 0 xs mid k e
              (λ j x y n t. let ne : j ≢ k = omega arith in rw (polls_other plan k j ne) t) run.fit;
          ran = run_end delay p ss [] plan k
              ∙ (ap (λ (z : Pool L × List SerialState). run_entry_at z.0 z.1 k (poll_count plan k == delay k) (slice_get z.1 k)) run.ran
              ∙ rw (slice_get-map serial_state mid k, e) refl);
        })

    -- one that names the exchange of the flight f; the delay of this exchange is chosen anew
    module _ (mid : List (FlightView S L D C K)) (f g : FlightView S L D C K) (here : slice_get mid k ≡ Some f)
        (step : FlightStep s f g) (moves : TakesOrReturns f g a b) (kept : IsLost g → ⊥)
        (flights : EachFrom (λ j x f. FlightAfter s (poll_count plan j) x f) 0 xs mid) (run : RunWith delay plan xs mid p ss a) where
      abbrev chosen : ℕ
      chosen = delay_next (poll_count plan k) (delay k) f g

      abbrev next : ℕ → ℕ
      next = delay_set delay k chosen

      chosen_fits : (x : ExchangeView S L D C) → FlightAfter s (poll_count plan (0 + k)) x f → Fits delay plan (0 + k) x f → Fits next (plan ++ k ∷ []) (0 + k) x g
      chosen_fits x after fits =
          let q : 0 + k ≡ k = omega arith in
          let now = step_fits s (poll_count plan k) (delay k) x f g step kept (subst (λ (j : ℕ). FlightAfter s (poll_count plan j) x f) q after) (subst (λ (j : ℕ). Fits delay plan j x f) q fits) in
          let counted = subst (λ (n : ℕ). AllowedDelay s n x (flight_outcome g) chosen) (sym (polls_here plan k)) now in
          let there = subst (λ (d : ℕ). AllowedDelay s (poll_count (plan ++ k ∷ []) k) x (flight_outcome g) d) (sym (set_here delay k chosen)) counted in
          subst (λ (j : ℕ). Fits next (plan ++ k ∷ []) j x g) (sym q) there

      other_fits : (j : ℕ) (x : ExchangeView S L D C) (h : FlightView S L D C K) → j ≢ 0 + k → Fits delay plan j x h → Fits next (plan ++ k ∷ []) j x h
      other_fits j x h n fits = let ne : j ≢ k = omega arith in rw (polls_other plan k j ne, set_other delay k chosen j ne) fits

      all_fit : EachFrom (Fits next (plan ++ k ∷ [])) 0 xs (slice_set mid k g)
      all_fit =
          each_set (λ j x h. FlightAfter s (poll_count plan j) x h × Fits delay plan j x h) (Fits next (plan ++ k ∷ [])) 0 xs mid k f g here
          (λ x t. chosen_fits x t.0 t.1) (λ j x h n t. other_fits j x h n t.1)
          (each_both (λ j x h. FlightAfter s (poll_count plan j) x h) (Fits delay plan) 0 xs mid flights run.fit)

      as_before : (n : ℕ) → n < poll_count plan k → (n == delay k) ≡ (n == chosen)
      as_before n lt =
          let there = each_get (Fits delay plan) 0 xs mid k f here run.fit in
          let q : 0 + k ≡ k = omega arith in
          same_before s (poll_count plan k) (delay k) there.0 f g (subst (λ (j : ℕ). Fits delay plan j there.0 f) q there.2) n lt

      so_far : run_entries next p ss [] plan ≡ (a, map serial_state mid)
      so_far = sym (run_same delay next p ss [] plan (λ j n within lt. set_same delay plan k chosen as_before j n lt)) ∙ run.ran

      last_entry : run_entry_at a (map serial_state mid) k (poll_count plan k == next k) (slice_get (map serial_state mid) k) ≡ (b, map serial_state (slice_set mid k g))
      last_entry =
          rw (slice_get-map serial_state mid k, here, set_here delay k chosen)
          (ap (λ (z : Pool L × SerialState). (z.0, slice_set (map serial_state mid) k z.1)) (state_step s (poll_count plan k) (delay k) f g a b step moves kept)
          ∙ ap (λ (l : List SerialState). (b, l)) (sym (map-set serial_state mid k g)))

      polled_run : RunWith next (plan ++ k ∷ []) xs (slice_set mid k g) p ss b
      polled_run = record {
        fit = all_fit;
        ran = run_end next p ss [] plan k
            ∙ (ap (λ (z : Pool L × List SerialState). run_entry_at z.0 z.1 k (poll_count plan k == next k) (slice_get z.1 k)) so_far ∙ last_entry);
      }

    run_at : (mid new : List (FlightView S L D C K)) (calls_old calls_new : Option (List V)) (o : Option (FlightView S L D C K)) → slice_get mid k ≡ o
        → MatchOption o (NoChange s mid new a b calls_old calls_new) (λ f. (g : FlightView S L D C K) × (new ≡ slice_set mid k g) × FlightPoll s f g a b calls_old calls_new)
        → EachFrom (λ j x f. FlightAfter s (poll_count plan j) x f) 0 xs mid → ((g : FlightView S L D C K) → slice_get new k ≡ Some g → IsLost g → ⊥)
        → RunWith delay plan xs mid p ss a → (other : ℕ → ℕ) × RunWith other (plan ++ k ∷ []) xs new p ss b
    run_at mid new calls_old calls_new None e m flights kept run = (delay, idle_run mid new e m.flights m.pool run)
    run_at mid new calls_old calls_new (Some f) e m flights kept run =
        let there : slice_get new k ≡ Some m.0 = ap (λ (l : List (FlightView S L D C K)). slice_get l k) m.1 ∙ get_set mid k f m.0 e in
        let other = delay_set delay k (delay_next (poll_count plan k) (delay k) f m.0) in
        let after = polled_run mid f m.0 e m.2.step m.2.moves (kept m.0 there) flights run in
        (other, subst (λ (fs : List (FlightView S L D C K)). RunWith other (plan ++ k ∷ []) xs fs p ss b) (sym m.1) after)

  -- the pool run so far, where no allocation failed
  abbrev pub RunSoFar : List ℕ → List (FlightView S L D C K) → List (FlightView S L D C K) → Pool L → Pool L → Type 0
  RunSoFar plan old new p q =
      (xs : List (ExchangeView S L D C)) → old ≡ map (λ x. Waiting x) xs → list_any is_lost new ≡ false
      → (delay : ℕ → ℕ) × RunWith delay plan xs new p (map serial_state old) q

  none_polled : (i : ℕ) (xs : List (ExchangeView S L D C)) → EachFrom (Fits (λ _. 0) []) i xs (map (λ x. Waiting x) xs)
  none_polled i [] = tt
  none_polled i (x ∷ xs) = (omega arith, none_polled (i + 1) xs)

  pub run_start : (fs : List (FlightView S L D C K)) (p : Pool L) → RunSoFar [] fs fs p p
  run_start fs p xs e none = (
    λ _. 0,
    record {
      fit = subst (λ (l : List (FlightView S L D C K)). EachFrom (Fits (λ _. 0) []) 0 xs l) (sym e) (none_polled 0 xs);
      ran = refl;
    },
  )

  pub run_more : (plan : List ℕ) (k : ℕ) (old mid new : List (FlightView S L D C K)) (p a b : Pool L) (calls_old calls_new : Option (List V))
      → RunSoFar plan old mid p a → FlightsAfter s plan old mid → a ≡ with_records a.serials a.made p → PollsAt s k mid new (with_records a.serials a.made p) b calls_old calls_new
      → RunSoFar (plan ++ k ∷ []) old new p b
  run_more plan k old mid new p a b calls_old calls_new so_far flights rest polls xs e none =
      let now = with_records a.serials a.made p in
      let run = so_far xs e (lost_before s k mid new now b calls_old calls_new polls none) in
      let ran : run_entries run.0 p (map serial_state old) [] plan ≡ (now, map serial_state mid) = run.1.ran ∙ ap (λ (z : Pool L). (z, map serial_state mid)) rest in
      run_at plan k xs run.0 p (map serial_state old) now b mid new calls_old calls_new (slice_get mid k) refl polls (flights xs e)
      (λ g there lost. none_lost new k g none there lost) (record { fit = run.1.fit; ran = ran })

  pub run_ends : (plan : List ℕ) (old now : List (FlightView S L D C K)) (p a q : Pool L) (os : List OutcomeView) → RunSoFar plan old now p a → q ≡ return_held a (map serial_state now)
      → os ≡ map flight_outcome now → (xs : List (ExchangeView S L D C)) → old ≡ map (λ x. Waiting x) xs → AllowedPool s plan xs os p q
  run_ends plan old now p a q os so_far came outcomes xs e none =
      let lost : list_any is_lost now ≡ false = sym (lost_outcomes now) ∙ (ap (λ (l : List OutcomeView). list_any lacks_memory l) (sym outcomes) ∙ none) in
      let run = so_far xs e lost in
      let fit = each_map (Fits run.0 plan) (λ k x o. AllowedDelay s (poll_count plan k) x o (run.0 k)) flight_outcome 0 xs now (λ k x f fits. fits) run.1.fit in
      let ran : run_entries run.0 p (map (λ _. NotTaken) xs) [] plan ≡ (a, map serial_state now) = ap (λ (ss : List SerialState). run_entries run.0 p ss [] plan) (sym (waits_map old xs e)) ∙ run.1.ran in (
        run.0,
        subst (λ (l : List OutcomeView). EachFrom (λ k x o. AllowedDelay s (poll_count plan k) x o (run.0 k)) 0 xs l) (sym outcomes) fit,
        came ∙ sym (ap (λ (z : Pool L × List SerialState). return_held z.0 z.1) ran),
      )
