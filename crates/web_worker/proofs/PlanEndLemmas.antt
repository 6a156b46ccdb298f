-- The numbers of a plan as far as it has come, and its flights at the end.
use Rattle.std.proofs.Common.{◌≡◌, ℕ, ◌+◌, ◌<◌, false, List, [], ◌∷◌, ◌++◌, map, length, take, slice_index_or, slice_set, refl, sym, ◌∙◌, ap, arith, subst}
use Rattle.std.specs.List.{All}
use Rattle.std.proofs.Math.Seq.{take-append_seam, take-length}
use Rattle.std.proofs.lemmas.List.{map-append, take_more, take_more_set}
use Rattle.std.proofs.lemmas.List.Elements.{All-cons, All-nil}
use Rattle.web_worker.specs.Exchanges.{FlightView}
use Rattle.web_worker.specs.Exchanges.{FlightView.Answered}
use Rattle.web_worker.specs.Flights.{flight_outcome, is_open}

pub map_next : {X Y : Type 0} (f : X → Y) (xs : List X) (i : ℕ) (x : X) → i < length xs → map f (take (i + 1) xs) ≡ map f (take i xs) ++ f (slice_index_or xs i x) ∷ []
map_next f xs i x lt = ap (map f) (take_more xs i x lt) ∙ map-append f (take i xs) (slice_index_or xs i x ∷ [])

pub map_all : {X Y : Type 0} (f : X → Y) (xs : List X) (i : ℕ) → i ≡ length xs → map f (take i xs) ≡ map f xs
map_all f xs i e = ap (λ n. map f (take n xs)) e ∙ ap (map f) (take-length xs)

pub map_same : (xs : List ℕ) → map (λ n. n) xs ≡ xs
map_same [] = refl
map_same (x ∷ xs) = ap (λ ys. x ∷ ys) (map_same xs)

-- a list that was lent as a slice of its length, and comes back as another
pub lent_back : {X : Type 0} (n : ℕ) (xs ys : List X) → n ≡ length xs → take n (xs ++ ys) ≡ xs
lent_back n xs ys e = ap (λ m. take m (xs ++ ys)) e ∙ take-append_seam xs ys

module _ {S L D C K : Type 0} where
  -- a flight at the end of a plan
  abbrev ended : FlightView S L D C K → FlightView S L D C K
  ended f = Answered (flight_outcome f)

  ended_from : (fs : List (FlightView S L D C K)) → map (λ (g : FlightView S L D C K). flight_outcome g) (map (λ f. Answered (flight_outcome f)) fs) ≡ map (λ f. flight_outcome f) fs
  ended_from [] = refl
  ended_from (f ∷ fs) = ap (λ os. flight_outcome f ∷ os) (ended_from fs)

  -- flights at the end have the outcomes that they had
  pub ended_outcomes : (mid new : List (FlightView S L D C K)) → new ≡ map (λ f. Answered (flight_outcome f)) mid → map (λ f. flight_outcome f) new ≡ map (λ f. flight_outcome f) mid
  ended_outcomes mid new e = ap (λ fs. map (λ (f : FlightView S L D C K). flight_outcome f) fs) e ∙ ended_from mid

  answered_from : (fs : List (FlightView S L D C K)) → All (λ (g : FlightView S L D C K). is_open g ≡ false) (map (λ f. Answered (flight_outcome f)) fs)
  answered_from [] = All-nil (λ (f : FlightView S L D C K). is_open f ≡ false)
  answered_from (f ∷ fs) = All-cons (λ (f : FlightView S L D C K). is_open f ≡ false) (Answered (flight_outcome f)) (map (λ f. Answered (flight_outcome f)) fs) refl (answered_from fs)

  -- and all are answered
  pub ended_answered : (mid new : List (FlightView S L D C K)) → new ≡ map (λ f. Answered (flight_outcome f)) mid → All (λ f. is_open f ≡ false) new
  ended_answered mid new e = subst (λ (fs : List (FlightView S L D C K)). All (λ f. is_open f ≡ false) fs) (sym e) (answered_from mid)

  -- one more flight is ended
  pub ended_next : (old now : List (FlightView S L D C K)) (i : ℕ) (d new : FlightView S L D C K) → i < length old → i < length now
      → take i now ≡ map (λ f. Answered (flight_outcome f)) (take i old) → slice_index_or now i d ≡ slice_index_or old i d → new ≡ Answered (flight_outcome (slice_index_or now i d))
      → take (i + 1) (slice_set now i new) ≡ map (λ f. Answered (flight_outcome f)) (take (i + 1) old)
  ended_next old now i d new there here so_far same is =
      take_more_set now i new here ∙ rw (map_next ended old i d there, so_far, is, same) refl

  -- all flights are ended
  pub all_ended : (old now : List (FlightView S L D C K)) (i : ℕ) → i ≡ length old → length now ≡ length old → take i now ≡ map (λ f. Answered (flight_outcome f)) (take i old)
      → now ≡ map (λ f. Answered (flight_outcome f)) old
  all_ended old now i last size so_far =
      let whole : i ≡ length now = omega (arith, last, size) in
      sym (ap (λ n. take n now) whole ∙ take-length now) ∙ so_far ∙ map_all ended old i last
