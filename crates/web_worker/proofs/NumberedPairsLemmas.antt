-- Facts of each number and the items there of two lists, and how often a plan names a number.
use Rattle.std.proofs.Common.{◌≡◌, ◌==◌, ℕ, zero, suc, ◌+◌, ◌<◌, ◌≤◌, ◌≢◌, true, false, cond, List, [], ◌∷◌, ◌++◌, drop, get_or, length, map, ◌∙◌, arith, ap, subst, refl, sym}
use Rattle.std.proofs.Math.Seq.{drop-cons}
use Rattle.std.specs.Prelude.{None, Some, slice_get, slice_set}
use Rattle.std.proofs.lemmas.Bool.Decides.{nat_tests}
use Rattle.web_worker.specs.PlanOutcomes.{poll_count, EachFrom}

-- Q follows from P at each number of the list
pub each_map : {X Y Z : Type 0} (P : ℕ → X → Y → Type 0) (Q : ℕ → X → Z → Type 0) (h : Y → Z) (i : ℕ) (xs : List X) (ys : List Y)
    → ((j : ℕ) (x : X) (y : Y) → P j x y → Q j x (h y)) → EachFrom P i xs ys → EachFrom Q i xs (map h ys)
each_map P Q h i [] [] f e = tt
each_map P Q h i (x ∷ xs) (y ∷ ys) f e = (f i x y e.0, each_map P Q h (i + 1) xs ys f e.1)
each_map P Q h i [] (y ∷ ys) f e = absurd e
each_map P Q h i (x ∷ xs) [] f e = absurd e

pub each_same : {X Y : Type 0} (P Q : ℕ → X → Y → Type 0) (i : ℕ) (xs : List X) (ys : List Y)
    → ((j : ℕ) (x : X) (y : Y) → i ≤ j → j < i + length xs → P j x y → Q j x y) → EachFrom P i xs ys → EachFrom Q i xs ys
each_same P Q i [] [] f h = tt
each_same P Q i (x ∷ xs) (y ∷ ys) f h = (
  f i x y (omega arith) (omega arith) h.0,
  each_same P Q (i + 1) xs ys (λ j a b l m p. let k : i ≤ j = omega arith in let n : j < i + suc (length xs) = omega arith in f j a b k n p) h.1,
)
each_same P Q i [] (y ∷ ys) f h = h
each_same P Q i (x ∷ xs) [] f h = h

-- P and Q hold at each number of the list
pub each_both : {X Y : Type 0} (P Q : ℕ → X → Y → Type 0) (i : ℕ) (xs : List X) (ys : List Y) → EachFrom P i xs ys → EachFrom Q i xs ys
    → EachFrom (λ j x y. P j x y × Q j x y) i xs ys
each_both P Q i [] [] g h = tt
each_both P Q i (x ∷ xs) (y ∷ ys) g h = ((g.0, h.0), each_both P Q (i + 1) xs ys g.1 h.1)
each_both P Q i [] (y ∷ ys) g h = absurd h
each_both P Q i (x ∷ xs) [] g h = absurd h

-- a change at one place
pub each_set : {X Y : Type 0} (P Q : ℕ → X → Y → Type 0) (i : ℕ) (xs : List X) (ys : List Y) (k : ℕ) (f g : Y) → slice_get ys k ≡ Some f
    → ((x : X) → P (i + k) x f → Q (i + k) x g) → ((j : ℕ) (x : X) (y : Y) → j ≢ i + k → P j x y → Q j x y)
    → EachFrom P i xs ys → EachFrom Q i xs (slice_set ys k g)
each_set P Q i [] [] k f g e t o h = tt
each_set P Q i [] (y ∷ ys) k f g e t o h = absurd h
each_set P Q i (x ∷ xs) [] k f g e t o h = absurd h
each_set P Q i (x ∷ xs) (y ∷ ys) zero f g e t o h =
    let q : i + 0 ≡ i = omega arith in
    let v : y ≡ f = cc in (
      subst (λ (m : ℕ). Q m x g) q (t x (subst (λ (m : ℕ). P m x f) (sym q) (subst (λ (z : _). P i x z) v h.0))),
      each_same P Q (i + 1) xs ys (λ j a b l m p. let n : j ≢ i + 0 = omega arith in o j a b n p) h.1,
    )
each_set P Q i (x ∷ xs) (y ∷ ys) (suc k) f g e t o h =
    let q : i + 1 + k ≡ i + suc k = omega arith in
    let n : i ≢ i + suc k = omega arith in (
      o i x y n h.0,
      each_set P Q (i + 1) xs ys k f g e (λ a p. subst (λ (m : ℕ). Q m a g) (sym q) (t a (subst (λ (m : ℕ). P m a f) q p)))
          (λ j a b l p. let r : j ≢ i + suc k = omega arith in o j a b r p) h.1,
    )

-- no change, where there is no such place
pub each_none : {X Y : Type 0} (P Q : ℕ → X → Y → Type 0) (i : ℕ) (xs : List X) (ys : List Y) (k : ℕ) → slice_get ys k ≡ None
    → ((j : ℕ) (x : X) (y : Y) → j ≢ i + k → P j x y → Q j x y) → EachFrom P i xs ys → EachFrom Q i xs ys
each_none P Q i [] [] k e o h = tt
each_none P Q i [] (y ∷ ys) k e o h = h
each_none P Q i (x ∷ xs) [] k e o h = h
each_none P Q i (x ∷ xs) (y ∷ ys) zero e o h = absurd cc
each_none P Q i (x ∷ xs) (y ∷ ys) (suc k) e o h =
    let n : i ≢ i + suc k = omega arith in
    (o i x y n h.0, each_none P Q (i + 1) xs ys k e (λ j a b l p. let r : j ≢ i + suc k = omega arith in o j a b r p) h.1)

-- one more place at the end
pub each_push : {X Y : Type 0} (P : ℕ → X → Y → Type 0) (i : ℕ) (xs : List X) (ys : List Y) (x : X) (y : Y) → P (i + length xs) x y → EachFrom P i xs ys
    → EachFrom P i (xs ++ x ∷ []) (ys ++ y ∷ [])
each_push P i [] [] x y p h = let q : i + 0 ≡ i = omega arith in (subst (λ (m : ℕ). P m x y) q p, tt)
each_push P i (a ∷ xs) (b ∷ ys) x y p h =
    let q : i + suc (length xs) ≡ i + 1 + length xs = omega arith in
    (h.0, each_push P (i + 1) xs ys x y (subst (λ (m : ℕ). P m x y) q p) h.1)
each_push P i [] (b ∷ ys) x y p h = absurd h
each_push P i (a ∷ xs) [] x y p h = absurd h

-- the items of both lists at one number
pub each_get : {X Y : Type 0} (P : ℕ → X → Y → Type 0) (i : ℕ) (xs : List X) (ys : List Y) (k : ℕ) (f : Y) → slice_get ys k ≡ Some f → EachFrom P i xs ys
    → (x : X) × (slice_get xs k ≡ Some x) × P (i + k) x f
each_get P i [] [] k f e h = absurd cc
each_get P i [] (y ∷ ys) k f e h = absurd h
each_get P i (x ∷ xs) [] k f e h = absurd h
each_get P i (x ∷ xs) (y ∷ ys) zero f e h =
    let v : y ≡ f = cc in let l : i ≡ i + 0 = omega arith in
    (x, refl, subst (λ (j : ℕ). P j x f) l (subst (λ (z : _). P i x z) v h.0))
each_get P i (x ∷ xs) (y ∷ ys) (suc k) f e h =
    let r = each_get P (i + 1) xs ys k f e h.1 in let l : i + 1 + k ≡ i + suc k = omega arith in
    (r.0, r.1, subst (λ (j : ℕ). P j r.0 f) l r.2)

pub each_left : {X Y : Type 0} (P : ℕ → X → Y → Type 0) (i : ℕ) (xs : List X) (ys : List Y) (k : ℕ) (x : X) → slice_get xs k ≡ Some x → EachFrom P i xs ys
    → (y : Y) × P (i + k) x y
each_left P i [] [] k x e h = absurd cc
each_left P i [] (y ∷ ys) k x e h = absurd h
each_left P i (a ∷ xs) [] k x e h = absurd h
each_left P i (a ∷ xs) (y ∷ ys) zero x e h =
    let v : a ≡ x = cc in let l : i ≡ i + 0 = omega arith in
    (y, subst (λ (j : ℕ). P j x y) l (subst (λ (z : _). P i z y) v h.0))
each_left P i (a ∷ xs) (y ∷ ys) (suc k) x e h =
    let r = each_left P (i + 1) xs ys k x e h.1 in let l : i + 1 + k ≡ i + suc k = omega arith in
    (r.0, subst (λ (j : ℕ). P j x r.0) l r.1)

pub each_get_none : {X Y : Type 0} (P : ℕ → X → Y → Type 0) (i : ℕ) (xs : List X) (ys : List Y) (k : ℕ) → slice_get ys k ≡ None → EachFrom P i xs ys → slice_get xs k ≡ None
each_get_none P i [] [] k e h = refl
each_get_none P i [] (y ∷ ys) k e h = absurd h
each_get_none P i (x ∷ xs) [] k e h = absurd h
each_get_none P i (x ∷ xs) (y ∷ ys) zero e h = absurd cc
each_get_none P i (x ∷ xs) (y ∷ ys) (suc k) e h = each_get_none P (i + 1) xs ys k e h.1

pub get_set : {Y : Type 0} (ys : List Y) (k : ℕ) (f g : Y) → slice_get ys k ≡ Some f → slice_get (slice_set ys k g) k ≡ Some g
get_set [] k f g e = absurd cc
get_set (y ∷ ys) zero f g e = refl
get_set (y ∷ ys) (suc k) f g e = get_set ys k f g e

pub get_kept : {Y : Type 0} (ys : List Y) (k j : ℕ) (f g a : Y) → slice_get ys k ≡ Some f → (f ≡ a → g ≡ a) → slice_get ys j ≡ Some a
    → slice_get (slice_set ys k g) j ≡ Some a
get_kept [] k j f g a e s h = absurd cc
get_kept (y ∷ ys) zero zero f g a e s h = let v : f ≡ a = cc in ap Some (s v)
get_kept (y ∷ ys) zero (suc j) f g a e s h = h
get_kept (y ∷ ys) (suc k) zero f g a e s h = h
get_kept (y ∷ ys) (suc k) (suc j) f g a e s h = get_kept ys k j f g a e s h

polls_end : (p : List ℕ) (j k : ℕ) → poll_count (p ++ j ∷ []) k ≡ poll_count p k + cond (j == k) 1 0
polls_end [] j k = omega arith
polls_end (i ∷ p) j k = let h = polls_end p j k in omega (arith, h)

pub polls_here : (p : List ℕ) (k : ℕ) → poll_count (p ++ k ∷ []) k ≡ suc (poll_count p k)
polls_here p k = let h = polls_end p k k in let e : (k == k) ≡ true = grind (arith, nat_tests) in let r : cond {A = ℕ} (k == k) 1 0 ≡ 1 = rw e refl in omega (arith, h)

pub polls_other : (p : List ℕ) (j k : ℕ) → k ≢ j → poll_count (p ++ j ∷ []) k ≡ poll_count p k
polls_other p j k ne = let h = polls_end p j k in let e : (j == k) ≡ false = grind (arith, nat_tests) in let r : cond {A = ℕ} (j == k) 1 0 ≡ 0 = rw e refl in omega (arith, h)

-- where two lists agree from k on, they agree at k, and after it
pub agree_behind : {X : Type 0} (xs ys : List X) (k : ℕ) (d : X) → k < length xs → length xs ≡ length ys → drop k xs ≡ drop k ys
    → (get_or xs k d ≡ get_or ys k d) × (drop (k + 1) xs ≡ drop (k + 1) ys)
agree_behind xs ys k d lt size same =
    let next : k + 1 ≡ suc k = omega arith in
    let both : get_or xs k d ∷ drop (suc k) xs ≡ get_or ys k d ∷ drop (suc k) ys = sym (drop-cons xs k d lt) ∙ same ∙ drop-cons ys k d (omega (arith, lt, size)) in
    (cc, rw next cc)
