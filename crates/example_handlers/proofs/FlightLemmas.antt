-- Flights in a loop of one's own.
use Rattle.std.proofs.Common.{◌≡◌, ℕ, ◌+◌, ◌<◌, ◌≤◌, Bool, true, false, List, [], ◌∷◌, length, cond, arith, refl}
use Rattle.std.specs.Prelude.{Option, None, Some, is_some}
use Rattle.std.specs.Option.{option_map}
use Rattle.web_worker.specs.Exchanges.{FlightView}
use Rattle.web_worker.specs.RecordsMade.{is_waiting, may_make, waiting_count}

pub is_some_map : {T U : Type 0} (f : T → U) (o : Option T) → is_some o ≡ is_some (option_map f o)
is_some_map f None = refl
is_some_map f (Some x) = refl

one_at_most : (b : Bool) → cond b 1 0 ≤ 1
one_at_most true = omega arith
one_at_most false = omega arith

module _ {S L D C K : Type 0} where
  pub may_make_most : (o : Option (FlightView S L D C K)) → may_make o ≤ 1
  may_make_most None = omega arith
  may_make_most (Some f) = one_at_most (is_waiting f)

  -- one record more can be counted, which is the most that a poll makes
  pub room : (made top : ℕ) (o : Option (FlightView S L D C K)) → made + 1 < top
      → made + may_make o < top
  room made top o more = let least = may_make_most o in omega (arith, more, least)

  -- no more flights wait than there are
  pub waiting_count_most : (fs : List (FlightView S L D C K)) → waiting_count fs ≤ length fs
  waiting_count_most [] = omega arith
  waiting_count_most (f ∷ fs) =
      let one = one_at_most (is_waiting f) in
      let more = waiting_count_most fs in
      omega (arith, one, more)
