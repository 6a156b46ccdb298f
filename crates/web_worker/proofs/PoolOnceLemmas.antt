-- Each number of a record stands at most once.
use Rattle.std.proofs.Common.{◌≡◌, ◌==◌, ℕ, zero, suc, ◌+◌, ◌-◌, ◌≤◌, Bool, true, false, cond, List, [], ◌∷◌, ◌++◌, length, map, nat_lt, refl, ap, arith, take}
use Rattle.std.specs.Prelude.{Option, None, Some, slice_get, slice_set, slice_index_or, if◌then◌else◌}
use Rattle.std.proofs.lemmas.Bool.Decides.{nat_tests}
use Rattle.web_request.specs.Pool.{Pool, after_disable, after_give_back, after_start, available, but_last, last_or, made_after, new_pool, next_serial}
use Rattle.web_request.specs.declared.config.AppConfig.{AppConfig}
use Rattle.web_worker.specs.PlanOutcomes.{poll_count}
use Rattle.web_worker.specs.PlanPools.{pool_after}
use Rattle.web_worker.specs.PoolRun.{Taken, Returned, DistinctSerials, SerialState, NotTaken, run_entry, run_entry_at, holding_count, return_held, run_entries, taken_count}

less_suc : (n y : ℕ) → cond {A = ℕ} (nat_lt y n) 1 0 + cond (n == y) 1 0 ≤ cond (nat_lt y (n + 1)) 1 0
less_suc n y = grind (arith, nat_tests)

count_end : (xs : List ℕ) (x y : ℕ) → poll_count (xs ++ x ∷ []) y ≡ poll_count xs y + cond (x == y) 1 0
count_end [] x y = omega arith
count_end (z ∷ xs) x y = let h = count_end xs x y in omega (arith, h)

count_either : (b : Bool) (xs : List ℕ) (x y : ℕ) → poll_count (if b then xs ++ x ∷ [] else xs) y ≤ poll_count xs y + cond (x == y) 1 0
count_either true xs x y = let h = count_end xs x y in omega (arith, h)
count_either false xs x y = omega arith

one_less : (x z : ℕ) (xs : List ℕ) → length (x ∷ z ∷ xs) - 1 ≡ suc (length (z ∷ xs) - 1)
one_less x z xs = omega arith

but_last_step : (x z : ℕ) (xs : List ℕ) → but_last (x ∷ z ∷ xs) ≡ x ∷ but_last (z ∷ xs)
but_last_step x z xs = ap (λ n. take n (x ∷ z ∷ xs)) (one_less x z xs)

last_step : (d x z : ℕ) (xs : List ℕ) → last_or d (x ∷ z ∷ xs) ≡ last_or d (z ∷ xs)
last_step d x z xs = ap (λ n. slice_index_or (x ∷ z ∷ xs) n d) (one_less x z xs)

last_of : (d y x : ℕ) (xs : List ℕ) → poll_count (but_last (x ∷ xs)) y + cond (last_or d (x ∷ xs) == y) 1 0 ≡ poll_count (x ∷ xs) y
last_of d y x [] = omega arith
last_of d y x (z ∷ xs) = let h = last_of d y z xs in rw (but_last_step x z xs, last_step d x z xs) (omega (arith, h))

once_take : (made : ℕ) (xs : List ℕ) (y a b : ℕ) → poll_count xs y + a ≤ cond (nat_lt y made) 1 0 → b ≡ a + cond (last_or made xs == y) 1 0
    → poll_count (but_last xs) y + b ≤ cond (nat_lt y (made_after made xs)) 1 0
once_take made [] y a b h e = let l = less_suc made y in omega (arith, h, e, l)
once_take made (x ∷ xs) y a b h e = let l = last_of made y x xs in omega (arith, h, e, l)

holders_set : (ss : List SerialState) (k : ℕ) (s t : SerialState) (y : ℕ) → slice_get ss k ≡ Some s → holding_count (slice_set ss k t) y + taken_count s y ≡ holding_count ss y + taken_count t y
holders_set [] k s t y e = absurd cc
holders_set (h ∷ ss) zero s t y e = let q : h ≡ s = cc in rw q (omega arith)
holders_set (h ∷ ss) (suc k) s t y e = let q = holders_set ss k s t y e in omega (arith, q)

counts_apart : (ss ts : List SerialState) (y : ℕ)
    → holding_count (ss ++ ts) y ≡ holding_count ss y + holding_count ts y
counts_apart [] ts y = omega arith
counts_apart (s ∷ ss) ts y = let h = counts_apart ss ts y in omega (arith, h)

none_taken : {X : Type 0} (xs : List X) (y : ℕ) → holding_count (map (λ _. NotTaken) xs) y ≡ 0
none_taken [] y = refl
none_taken (x ∷ xs) y = let h = none_taken xs y in omega (arith, h)

module _ {L : Type 0} where
  count_back : (p : Pool L) (x y : ℕ) → poll_count (after_give_back x p).serials y ≤ poll_count p.serials y + cond (x == y) 1 0
  count_back p x y = count_either (available p) p.serials x y

  entry_once : (p : Pool L) (ss : List SerialState) (k : ℕ) (s : SerialState) (b : Bool) → slice_get ss k ≡ Some s → DistinctSerials p ss → DistinctSerials (run_entry p s b).0 (slice_set ss k (run_entry p s b).1)
  entry_once p ss k NotTaken true e once y =
      let h = holders_set ss k NotTaken Returned y e in
      let o = once y in
      let back = count_back (after_start p) (next_serial p) y in
      let took = once_take p.made p.serials y (holding_count ss y) (holding_count ss y + cond (next_serial p == y) 1 0) o refl in
      omega (arith, h, back, took)
  entry_once p ss k NotTaken false e once y =
      let h = holders_set ss k NotTaken (Taken (next_serial p)) y e in
      let took = once_take p.made p.serials y (holding_count ss y) (holding_count ss y + cond (next_serial p == y) 1 0) (once y) refl in
      omega (arith, h, took)
  entry_once p ss k (Taken x) true e once y =
      let h = holders_set ss k (Taken x) Returned y e in
      let o = once y in
      let back = count_back p x y in
      omega (arith, h, o, back)
  entry_once p ss k (Taken x) false e once y = let h = holders_set ss k (Taken x) (Taken x) y e in let o = once y in omega (arith, h, o)
  entry_once p ss k Returned b e once y = let h = holders_set ss k Returned Returned y e in let o = once y in omega (arith, h, o)

  at_once : (p : Pool L) (ss : List SerialState) (k : ℕ) (b : Bool) (o : Option SerialState) → slice_get ss k ≡ o → DistinctSerials p ss → DistinctSerials (run_entry_at p ss k b o).0 (run_entry_at p ss k b o).1
  at_once p ss k b None e once = once
  at_once p ss k b (Some s) e once = entry_once p ss k s b e once

  -- a plan keeps that each number stands at most once
  pub run_once : (delay : ℕ → ℕ) (p : Pool L) (ss : List SerialState) (done plan : List ℕ) → DistinctSerials p ss → DistinctSerials (run_entries delay p ss done plan).0 (run_entries delay p ss done plan).1
  run_once delay p ss done [] once = once
  run_once delay p ss done (k ∷ rest) once =
      let next = run_entry_at p ss k (poll_count done k == delay k) (slice_get ss k) in
      run_once delay next.0 next.1 (done ++ k ∷ []) rest (at_once p ss k (poll_count done k == delay k) (slice_get ss k) refl once)

  -- and so does the end of it
  pub return_once : (p : Pool L) (ss : List SerialState) → DistinctSerials p ss → (y : ℕ) → poll_count (return_held p ss).serials y ≤ cond (nat_lt y (return_held p ss).made) 1 0
  return_once p [] once y = let o = once y in omega (arith, o)
  return_once p (NotTaken ∷ ss) once y = return_once p ss (λ z. let o = once z in omega (arith, o)) y
  return_once p (Taken x ∷ ss) once y = return_once (after_give_back x p) ss (λ z. let o = once z in let back = count_back p x z in omega (arith, o, back)) y
  return_once p (Returned ∷ ss) once y = return_once p ss (λ z. let o = once z in omega (arith, o)) y

  -- a pool that made none
  pub new_once : (root : L) (config : AppConfig) (capacity : ℕ)
      → DistinctSerials (new_pool root config capacity) []
  new_once root config capacity y = omega arith

  -- a record that is taken
  pub start_once : (p : Pool L) (ss : List SerialState) → DistinctSerials p ss
      → DistinctSerials (after_start p) (Taken (next_serial p) ∷ ss)
  start_once p ss once y =
      let took = once_take p.made p.serials y (holding_count ss y)
      (holding_count ss y + cond (next_serial p == y) 1 0) (once y) refl in
      omega (arith, took)

  -- one of the records that are held comes back
  pub give_back_once : (p : Pool L) (x : ℕ) (before after : List SerialState)
      → DistinctSerials p (before ++ Taken x ∷ after)
      → DistinctSerials (after_give_back x p) (before ++ after)
  give_back_once p x before after once y =
      let o = once y in
      let back = count_back p x y in
      let one = counts_apart before (Taken x ∷ after) y in
      let two = counts_apart before after y in
      omega (arith, o, back, one, two)

  pub disable_once : (p : Pool L) (ss : List SerialState) → DistinctSerials p ss
      → DistinctSerials (after_disable p) ss
  disable_once p ss once y = let o = once y in omega (arith, o)

  -- a whole plan
  pub plan_once : {X : Type 0} (delay : ℕ → ℕ) (p : Pool L) (xs : List X) (plan : List ℕ)
      → DistinctSerials p [] → DistinctSerials (pool_after delay p xs plan) []
  plan_once delay p xs plan once =
      let states : List SerialState = map (λ _. NotTaken) xs in
      let start : DistinctSerials p states =
      λ y. let o = once y in let none = none_taken xs y in omega (arith, o, none) in
      let ran = run_entries delay p states [] plan in
      λ y. let o = return_once ran.0 ran.1 (run_once delay p states [] plan start) y in
      omega (arith, o)
