-- What any list of calls leaves of a pool of records, and of the records that it lends.
use Rattle.std.specs.Prelude.{◌≡◌, ℕ, List, [], ◌∷◌, ◌++◌, Option, None, Some, ⊤, map, slice_get}
use Rattle.std.specs.List.{remove}
use Rattle.web_request.specs.Request.{Parts, Record}
use Rattle.web_request.specs.Pool.{Pool, after_disable, after_give_back, after_start}
use Rattle.web_request.specs.Pool.{new_record, next_serial}
use Rattle.web_worker.specs.PoolRun.{DistinctSerials, SerialState, Taken}
use Rattle.web_cutting.specs.declared.pool_calls.PoolCall.{PoolCall}
use Rattle.web_cutting.specs.declared.pool_calls.PoolCall.TheVariants.{Start, GiveBack, Disable}

-- a pool, and the records that it started and that were not given back, in the order of starting
pub record PoolInUse (L D C : Type 0) : Type 0 where
  pub pool : Pool L
  pub held : List (Record L D C)

-- a pool, and the records of it that are held
abbrev pub in_use : {L D C : Type 0} → Pool L → List (Record L D C) → PoolInUse L D C
in_use pool held = record { pool = pool; held = held }

-- the record at this place comes back; where there is none nothing changes
abbrev pub after_return : {L D C : Type 0} → PoolInUse L D C → ℕ → Option (Record L D C)
    → PoolInUse L D C
after_return s place None = s
after_return s place (Some r) =
    in_use (after_give_back r.serial s.pool) (remove s.held place)

-- after one call: a start takes the number kept last, or makes the next one; a number that comes
-- back is kept as the last where there is room; a disabled pool keeps none
abbrev pub after_call : {L D C : Type 0} → PoolInUse L D C → PoolCall (Parts L D C)
    → PoolInUse L D C
after_call s (Start parts) =
    let next = new_record s.pool.root s.pool.config (next_serial s.pool) parts in
    in_use (after_start s.pool) (s.held ++ next ∷ [])
after_call s (GiveBack place) = after_return s place (slice_get s.held place)
after_call s Disable = in_use (after_disable s.pool) s.held

-- after a list of calls, in order
abbrev pub after_calls : {L D C : Type 0} → PoolInUse L D C → List (PoolCall (Parts L D C))
    → PoolInUse L D C
after_calls s [] = s
after_calls s (call ∷ calls) = after_calls (after_call s call) calls

-- the call starts a request
abbrev pub IsStartCall : {P : Type 0} → PoolCall P → Type 0
IsStartCall (Start parts) = ⊤
IsStartCall (GiveBack place) = ⊥
IsStartCall Disable = ⊥

-- The calls before one of the starts were made, and no other.
pub record StopsAtStart {L D C : Type 0} (before after : PoolInUse L D C)
    (calls : List (PoolCall (Parts L D C))) : Type 0 where
  pub done : List (PoolCall (Parts L D C))
  pub stopped : PoolCall (Parts L D C)
  pub rest : List (PoolCall (Parts L D C))
  pub calls_are : calls ≡ done ++ stopped ∷ rest
  pub start : IsStartCall stopped
  pub left : after ≡ after_calls before done

-- the numbers of records that are held
abbrev pub held_serials : {L D C : Type 0} → List (Record L D C) → List SerialState
held_serials held = map (λ r. Taken r.serial) held

-- Each number that was made stands at most once, in the pool or in a record that is held, and no
-- other number stands there.
abbrev pub HasDistinctSerials : {L D C : Type 0} → PoolInUse L D C → Type 0
HasDistinctSerials s = DistinctSerials s.pool (held_serials s.held)
