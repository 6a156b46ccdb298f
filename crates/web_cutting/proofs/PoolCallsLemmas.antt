-- Any list of calls of a pool: one call more, how many records it makes, and distinct numbers.
use Rattle.std.proofs.Common.{◌≡◌, ◌==◌, ℕ, zero, suc, ◌+◌, ◌<◌, ◌≤◌, cond, List, [], ◌∷◌, ◌++◌, length, length-append, refl, sym, ◌∙◌, ap, arith, subst}
use Rattle.std.specs.Prelude.{Option, None, Some, slice_get}
use Rattle.std.specs.List.{remove}
use Rattle.std.proofs.lemmas.Option.{slice_get_past}
use Rattle.web_request.specs.Request.{Parts, Record}
use Rattle.web_request.specs.Pool.{Pool, after_give_back, made_after, new_record, next_serial}
use Rattle.web_worker.specs.PoolRun.{holding_count}
use Rattle.web_worker.proofs.PoolOnceLemmas.{disable_once, give_back_once, start_once}
use Rattle.web_cutting.specs.declared.pool_calls.PoolCall.{PoolCall}
use Rattle.web_cutting.specs.declared.pool_calls.PoolCall.TheVariants.{Start, GiveBack, Disable}
use Rattle.web_cutting.specs.PoolCalls.{HasDistinctSerials, PoolInUse, after_call, after_calls, after_return, held_serials, in_use}

-- ---- one call more

pub calls_more : {L D C : Type 0} (s : PoolInUse L D C) (calls : List (PoolCall (Parts L D C))) (call : PoolCall (Parts L D C))
    → after_calls s (calls ++ call ∷ []) ≡ after_call (after_calls s calls) call
calls_more s [] call = refl
calls_more s (first ∷ calls) call = calls_more (after_call s first) calls call

-- ---- one record that comes back, or none

pub none_there : {L D C : Type 0} (p : Pool L) (held : List (Record L D C)) (place : ℕ)
    → length held ≤ place → in_use p held ≡ after_return (in_use p held) place (slice_get held place)
none_there p held place past = sym (ap (λ (found : Option (Record _ _ _)). after_return (in_use p held) place found) (slice_get_past held place past))

pub one_back : {L D C : Type 0} (p q : Pool L) (held left : List (Record L D C)) (place : ℕ) (r : Record L D C)
    → slice_get held place ≡ Some r → q ≡ after_give_back r.serial p → left ≡ remove held place
    → in_use q left ≡ after_return (in_use p held) place (slice_get held place)
one_back p q held left place r there back rest =
    ap (λ (z : Pool _). in_use z left) back
    ∙ ap (λ (xs : List (Record _ _ _)). in_use (after_give_back r.serial p) xs) rest
    ∙ sym (ap (λ (found : Option (Record _ _ _)). after_return (in_use p held) place found) there)

-- ---- how many records were made

start_made : (made : ℕ) (serials : List ℕ) → made_after made serials ≤ made + 1
start_made made [] = omega arith
start_made made (x ∷ xs) = omega arith

return_made : {L D C : Type 0} (s : PoolInUse L D C) (place : ℕ) (found : Option (Record L D C)) → (after_return s place found).pool.made ≡ s.pool.made
return_made s place None = refl
return_made s place (Some r) = refl

call_made : {L D C : Type 0} (s : PoolInUse L D C) (call : PoolCall (Parts L D C)) → (after_call s call).pool.made ≤ s.pool.made + 1
call_made s (Start parts) = start_made s.pool.made s.pool.serials
call_made s (GiveBack place) = let same = return_made s place (slice_get s.held place) in omega (arith, same)
call_made s Disable = omega arith

pub calls_made : {L D C : Type 0} (s : PoolInUse L D C) (calls : List (PoolCall (Parts L D C))) → (after_calls s calls).pool.made ≤ s.pool.made + length calls
calls_made s [] = omega arith
calls_made s (call ∷ calls) =
    let one = call_made s call in
    let more = calls_made (after_call s call) calls in
    omega (arith, one, more)

-- the next call has room to count one record more
pub room_left : {L D C : Type 0} (s now : PoolInUse L D C) (all done rest : List (PoolCall (Parts L D C))) (call : PoolCall (Parts L D C)) (most : ℕ)
    → now ≡ after_calls s done → done ++ call ∷ rest ≡ all → s.pool.made + length all < most → now.pool.made + 1 < most
room_left s now all done rest call most is whole room =
    let made : now.pool.made ≡ (after_calls s done).pool.made = ap (λ (z : PoolInUse _ _ _). z.pool.made) is in
    let few = calls_made s done in
    let count : length (done ++ call ∷ rest) ≡ length all = ap length whole in
    let sum = length-append done (call ∷ rest) in
    omega (arith, made, few, count, sum, room)

-- ---- distinct numbers

count_more : {L D C : Type 0} (held : List (Record L D C)) (r : Record L D C) (y : ℕ)
    → holding_count (held_serials (held ++ r ∷ [])) y ≡ holding_count (held_serials held) y + cond (r.serial == y) 1 0
count_more [] r y = omega arith
count_more (h ∷ held) r y = let more = count_more held r y in omega (arith, more)

count_less : {L D C : Type 0} (held : List (Record L D C)) (place : ℕ) (r : Record L D C) (y : ℕ) → slice_get held place ≡ Some r
    → holding_count (held_serials held) y ≡ cond (r.serial == y) 1 0 + holding_count (held_serials (remove held place)) y
count_less [] place r y e = absurd cc
count_less (h ∷ held) zero r y e = let same : h ≡ r = cc in rw same refl
count_less (h ∷ held) (suc place) r y e = let less = count_less held place r y e in omega (arith, less)

return_distinct : {L D C : Type 0} (s : PoolInUse L D C) (place : ℕ) (found : Option (Record L D C)) → slice_get s.held place ≡ found
    → HasDistinctSerials s → HasDistinctSerials (after_return s place found)
return_distinct s place None e once = once
return_distinct s place (Some r) e once =
    give_back_once s.pool r.serial [] (held_serials (remove s.held place))
    (λ y. let o = once y in let less = count_less s.held place r y e in omega (arith, o, less))

call_distinct : {L D C : Type 0} (s : PoolInUse L D C) (call : PoolCall (Parts L D C)) → HasDistinctSerials s → HasDistinctSerials (after_call s call)
call_distinct s (Start parts) once = λ y.
    let took = start_once s.pool (held_serials s.held) once y in
    let more = count_more s.held (new_record s.pool.root s.pool.config (next_serial s.pool) parts) y in
    omega (arith, took, more)
call_distinct s (GiveBack place) once = return_distinct s place (slice_get s.held place) refl once
call_distinct s Disable once = disable_once s.pool (held_serials s.held) once

calls_distinct : {L D C : Type 0} (s : PoolInUse L D C) (calls : List (PoolCall (Parts L D C))) → HasDistinctSerials s → HasDistinctSerials (after_calls s calls)
calls_distinct s [] once = once
calls_distinct s (call ∷ calls) once = calls_distinct (after_call s call) calls (call_distinct s call once)

pub still_distinct : {L D C : Type 0} (s now : PoolInUse L D C) (done : List (PoolCall (Parts L D C))) → now ≡ after_calls s done
    → HasDistinctSerials s → HasDistinctSerials now
still_distinct s now done is once = subst (λ (z : PoolInUse _ _ _). HasDistinctSerials z) (sym is) (calls_distinct s done once)
