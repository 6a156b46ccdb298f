-- The records that are held at the end of a plan come back.
use Rattle.std.proofs.Common.{◌≡◌, ℕ, suc, ◌+◌, ◌<◌, List, [], ◌∷◌, map, drop, length, refl, ◌∙◌, ap, arith, drop-cons}
use Rattle.std.specs.Prelude.{None, slice_index_or}
use Rattle.std.specs.List.{list_any}
use Rattle.web_request.specs.Pool.{Pool, after_give_back}
use Rattle.web_worker.specs.Exchanges.{ExchangeView, FlightView}
use Rattle.web_worker.specs.Exchanges.{FlightView.Waiting, FlightView.InFlight, FlightView.Answered}
use Rattle.web_worker.specs.Flights.{flight_outcome}
use Rattle.web_worker.specs.PlanOutcomes.{lacks_memory}
use Rattle.web_worker.specs.PoolRun.{Taken, Returned, SerialState, NotTaken, return_held, serial_state}
use Rattle.web_worker.specs.PlanPools.{with_records}
use Rattle.web_worker.specs.PoolSteps.{after_release, serial_of}
use Rattle.web_worker.proofs.PoolCountLemmas.{is_lost}

module _ {S L D C K : Type 0} where
  return_one : (p : Pool L) (f : FlightView S L D C K) (ss : List SerialState) → return_held (after_release (serial_of f) None p) ss ≡ return_held p (serial_state f ∷ ss)
  return_one p (Waiting x) ss = refl
  return_one p (InFlight h) ss = refl
  return_one p (Answered o) ss = refl

  pub return_next : (fs now : List (FlightView S L D C K)) (i : ℕ) (d : FlightView S L D C K) (p q : Pool L) → i < length fs → slice_index_or now i d ≡ slice_index_or fs i d
      → q ≡ after_release (serial_of (slice_index_or now i d)) None p → return_held q (map serial_state (drop (i + 1) fs)) ≡ return_held p (map serial_state (drop i fs))
  return_next fs now i d p q lt same e =
      let n : i + 1 ≡ suc i = omega arith in
      let cons : drop i fs ≡ slice_index_or fs i d ∷ drop (i + 1) fs = rw n (drop-cons fs i d lt) in
      let came : q ≡ after_release (serial_of (slice_index_or fs i d)) None p = e ∙ ap (λ (f : FlightView S L D C K). after_release (serial_of f) None p) same in
      rw cons (ap (λ (z : Pool L). return_held z (map serial_state (drop (i + 1) fs))) came ∙ return_one p (slice_index_or fs i d) (map serial_state (drop (i + 1) fs)))

  pub waits_map : (fs : List (FlightView S L D C K)) (xs : List (ExchangeView S L D C)) → fs ≡ map (λ x. Waiting x) xs → map serial_state fs ≡ map (λ _. NotTaken) xs
  waits_map fs xs e = ap (λ (l : List (FlightView S L D C K)). map serial_state l) e ∙ states xs
    where
      states : (xs : List (ExchangeView S L D C)) → map (serial_state {K = K}) (map (λ x. Waiting x) xs) ≡ map (λ _. NotTaken) xs
      states [] = refl
      states (x ∷ xs) = ap (λ (l : List SerialState). NotTaken ∷ l) (states xs)

  lost_one : (f : FlightView S L D C K) → lacks_memory (flight_outcome f) ≡ is_lost f
  lost_one (Waiting x) = refl
  lost_one (InFlight h) = refl
  lost_one (Answered o) = refl

  pub lost_outcomes : (fs : List (FlightView S L D C K)) → list_any lacks_memory (map flight_outcome fs) ≡ list_any is_lost fs
  lost_outcomes [] = refl
  lost_outcomes (f ∷ fs) = rw (lost_one f, lost_outcomes fs) refl

pub returned_made : {L : Type 0} (p : Pool L) (ss : List SerialState) → (return_held p ss).made ≡ p.made
returned_made p [] = refl
returned_made p (NotTaken ∷ ss) = returned_made p ss
returned_made p (Taken x ∷ ss) = returned_made (after_give_back x p) ss
returned_made p (Returned ∷ ss) = returned_made p ss

pub returned_rest : {L : Type 0} (p : Pool L) (ss : List SerialState) → return_held p ss ≡ with_records (return_held p ss).serials (return_held p ss).made p
returned_rest p [] = refl
returned_rest p (NotTaken ∷ ss) = returned_rest p ss
returned_rest p (Taken x ∷ ss) = returned_rest (after_give_back x p) ss
returned_rest p (Returned ∷ ss) = returned_rest p ss
