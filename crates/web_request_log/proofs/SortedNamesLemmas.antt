-- Sorted names: two increasing lists with the same members are equal.
use Rattle.std.proofs.Common.{◌≡◌, refl, sym, ap, subst, rules, ◌∙◌, ℕ, zero, suc, length, map, ◌+◌, ◌<◌, Bool, true, false, List, [], ◌∷◌, sum_by, slice_index_or, Ordering, Less, Equal, Greater}
use native.Mathlib.Omega.{arith}
use Rattle.std.specs.Prelude.{⊤, if◌then◌else◌, bytes_eq}
use Rattle.std.specs.Ordering.{nat_cmp, is_lt, is_eq, ordering_reverse}
use Rattle.std.specs.Cmp.{IsStrictWeakOrder}
use Rattle.std.specs.Cmp.Lexicographic.{slice_cmp}
use Rattle.std.specs.List.Sorted.{IsSortedBy, IsPermutation}
use Rattle.std.proofs.lemmas.Cmp.{nat_list_cmp_total}
use Rattle.std.proofs.lemmas.List.Sorted.{ranks_by, sum_by-IsPermutation, IsPermutation-map, IsPermutation-refl, IsPermutation-sym, IsPermutation-trans, IsPermutation-cons, IsPermutation-middle}
use Rattle.std.proofs.lemmas.List.Sums.{sum_by-cons}
use Rattle.std.proofs.lemmas.Map.Text.{is_eq-slice_cmp}
use Rattle.std.proofs.lemmas.Slice.Eq.{bytes_eq-Decides}
use Rattle.web_request_log.specs.SortedNames.{before, with_name, sorted_names, IsIncreasing}

order : IsStrictWeakOrder before
order = ranks_by nat_list_cmp_total (λ x. x)

tie : (o p : Ordering) → o ≡ ordering_reverse p → is_lt o ≡ false → is_lt p ≡ false → is_eq o ≡ true
tie Equal p e f g = refl
tie Less p e f g = grind arith
tie Greater Less e f g = grind arith
tie Greater Equal e f g = grind arith
tie Greater Greater e f g = grind arith

-- names of which neither stands before the other are one
same_name : (a b : List ℕ) → before a b ≡ false → before b a ≡ false → a ≡ b
same_name a b f g = (bytes_eq-Decides a b).0 (sym (is_eq-slice_cmp a b) ∙ tie (slice_cmp nat_cmp a b) (slice_cmp nat_cmp b a) (nat_list_cmp_total.antisymm a b) f g)

not_both : (t : Bool) → (t ≡ true → t ≡ false) → t ≡ false
not_both true f = f refl
not_both false f = refl

irreflexive : (a : List ℕ) → before a a ≡ false
irreflexive a = not_both (before a a) (λ e. order.one_way a a e)

abbrev total : (List ℕ → ℕ) → List (List ℕ) → ℕ
total f [] = 0
total f (a ∷ ns) = f a + total f ns

sum_total : (f : List ℕ → ℕ) (ns : List (List ℕ)) → sum_by f ns ≡ total f ns
sum_total f [] = refl
sum_total f (a ∷ ns) = sum_by-cons f a ns ∙ ap (λ n. f a + n) (sum_total f ns)

abbrev Least : List ℕ → List (List ℕ) → Type 0
Least a [] = ⊤
Least a (b ∷ ns) = (before b a ≡ false) × Least a ns

abbrev Rising : List (List ℕ) → Type 0
Rising [] = ⊤
Rising (a ∷ ns) = Least a ns × Rising ns

abbrev count : List ℕ → List ℕ → ℕ
count a b = if bytes_eq a b then 1 else 0

never : 0 < 0 → ⊥
never i = omega arith

less_sum : (n : ℕ) → 0 < 0 + n → 0 < n
less_sum n i = omega arith

-- a name that comes among names is none before the least
least_step : (a b c : List ℕ) (ns : List (List ℕ)) (t : Bool) → bytes_eq b c ≡ t → before c a ≡ false → (0 < total (count b) ns → before b a ≡ false) → 0 < (if t then 1 else 0) + total (count b) ns → before b a ≡ false
least_step a b c ns true e h r i = subst (λ x. before x a ≡ false) (sym ((bytes_eq-Decides b c).0 e)) h
least_step a b c ns false e h r i = r (less_sum (total (count b) ns) i)

least_of : (a b : List ℕ) (ns : List (List ℕ)) → Least a ns → 0 < total (count b) ns → before b a ≡ false
least_of a b [] h i = absurd (never i)
least_of a b (c ∷ ns) h i = least_step a b c ns (bytes_eq b c) refl h.0 (λ j. least_of a b ns h.1 j) i

itself : (a : List ℕ) → count a a ≡ 1
itself a = ap (λ t. if t then 1 else 0) (sym (is_eq-slice_cmp a a) ∙ tie (slice_cmp nat_cmp a a) (slice_cmp nat_cmp a a) (nat_list_cmp_total.antisymm a a) (irreflexive a) (irreflexive a))

comes : (y : List ℕ) (n m : ℕ) → n ≡ count y y + m → 0 < n
comes y n m e = let one = itself y in omega arith

cancel : (a b m n : ℕ) → a ≡ b → a + m ≡ b + n → m ≡ n
cancel a b m n e h = omega arith

cons_same : (x y : List ℕ) (xs ys : List (List ℕ)) → x ≡ y → xs ≡ ys → x ∷ xs ≡ y ∷ ys
cons_same x y xs ys e f = grind arith

none_one : (m : ℕ) → 0 ≡ 1 + m → ⊥
none_one m e = omega arith

heads : (x y : List ℕ) (xs ys : List (List ℕ)) → Least x xs → ((f : List ℕ → ℕ) → total f (x ∷ xs) ≡ total f (y ∷ ys)) → before y x ≡ false
heads x y xs ys p h = least_of x y (x ∷ xs) (irreflexive x, p) (comes y (total (count y) (x ∷ xs)) (total (count y) ys) (h (count y)))

pub same_rising : (xs ys : List (List ℕ)) → Rising xs → Rising ys → ((f : List ℕ → ℕ) → total f xs ≡ total f ys) → xs ≡ ys
same_rising [] [] p q h = refl
same_rising [] (y ∷ ys) p q h = absurd (none_one (total (λ _. 1) ys) (h (λ _. 1)))
same_rising (x ∷ xs) [] p q h = absurd (none_one (total (λ _. 1) xs) (sym (h (λ _. 1))))
same_rising (x ∷ xs) (y ∷ ys) p q h =
    let e = same_name x y (heads y x ys xs q.0 (λ f. sym (h f))) (heads x y xs ys p.0 h) in
    cons_same x y xs ys e (same_rising xs ys p.1 q.1 (λ f. cancel (f x) (f y) (total f xs) (total f ys) (ap f e) (h f)))

placed_step : (f : List ℕ → ℕ) (a b : List ℕ) (ns : List (List ℕ)) (t : Bool) → total f (with_name a ns) ≡ f a + total f ns → total f (if t then a ∷ b ∷ ns else b ∷ with_name a ns) ≡ f a + (f b + total f ns)
placed_step f a b ns true e = refl
placed_step f a b ns false e = omega arith

placed_total : (f : List ℕ → ℕ) (a : List ℕ) (ns : List (List ℕ)) → total f (with_name a ns) ≡ f a + total f ns
placed_total f a [] = refl
placed_total f a (b ∷ ns) = placed_step f a b ns (before a b) (placed_total f a ns)

sorted_total : (f : List ℕ → ℕ) (ns : List (List ℕ)) → total f (sorted_names ns) ≡ total f ns
sorted_total f [] = refl
sorted_total f (a ∷ ns) = placed_total f a (sorted_names ns) ∙ ap (λ n. f a + n) (sorted_total f ns)

least_less : (a b : List ℕ) (ns : List (List ℕ)) → before b a ≡ false → Least b ns → Least a ns
least_less a b [] e h = tt
least_less a b (c ∷ ns) e h = (order.chain c b a h.0 e, least_less a b ns e h.1)

least_choice : (a b c : List ℕ) (ns : List (List ℕ)) (t : Bool) → before b a ≡ false → Least a (c ∷ ns) → Least a (with_name b ns) → Least a (if t then b ∷ c ∷ ns else c ∷ with_name b ns)
least_choice a b c ns true e h r = (e, h)
least_choice a b c ns false e h r = (h.0, r)

least_placed : (a b : List ℕ) (ns : List (List ℕ)) → before b a ≡ false → Least a ns → Least a (with_name b ns)
least_placed a b [] e h = (e, tt)
least_placed a b (c ∷ ns) e h = least_choice a b c ns (before b c) e h (least_placed a b ns e h.1)

rises_choice : (a b : List ℕ) (ns : List (List ℕ)) (t : Bool) → before a b ≡ t → Rising (b ∷ ns) → Rising (with_name a ns) → Rising (if t then a ∷ b ∷ ns else b ∷ with_name a ns)
rises_choice a b ns true e h r = let d = order.one_way a b e in ((d, least_less a b ns d h.0), h)
rises_choice a b ns false e h r = (least_placed b a ns e h.0, r)

placed_rises : (a : List ℕ) (ns : List (List ℕ)) → Rising ns → Rising (with_name a ns)
placed_rises a [] h = (tt, tt)
placed_rises a (b ∷ ns) h = rises_choice a b ns (before a b) refl h (placed_rises a ns h.1)

sorted_rises : (ns : List (List ℕ)) → Rising (sorted_names ns)
sorted_rises [] = tt
sorted_rises (a ∷ ns) = placed_rises a (sorted_names ns) (sorted_rises ns)

module _ {X : Type 0} (key : X → List ℕ) where
  abbrev by : X → X → Bool
  by x y = before (key x) (key y)

  least_from : (a : X) (ns : List X) → IsSortedBy by (a ∷ ns) → Rising (map key ns) → Least (key a) (map key ns)
  least_from a [] h r = tt
  least_from a (b ∷ ns) h r = let e = h 0 a (search rules) (omega arith) in (e, least_less (key a) (key b) (map key ns) e r.0)

  later : (a : X) (ns : List X) (k : ℕ) (d : X) → by (slice_index_or (a ∷ ns) (suc k + 1) d) (slice_index_or (a ∷ ns) (suc k) d) ≡ false → by (slice_index_or ns (k + 1) d) (slice_index_or ns k d) ≡ false
  later a ns k d h = let e : suc k + 1 ≡ suc (k + 1) = omega arith in subst (λ n. by (slice_index_or (a ∷ ns) n d) (slice_index_or ns k d) ≡ false) e h

  rises : (ns : List X) → IsSortedBy by ns → Rising (map key ns)
  rises [] h = tt
  rises (a ∷ ns) h = let r = rises ns (λ k d i j. later a ns k d (h (suc k) d (search rules) (omega arith))) in (least_from a ns h r, r)

  -- what a sort leaves is what the definition says
  pub sorted_is : (xs ys : List X) → IsPermutation xs ys → IsSortedBy by ys → map key ys ≡ sorted_names (map key xs)
  sorted_is xs ys p s = same_rising (map key ys) (sorted_names (map key xs)) (rises ys s) (sorted_rises (map key xs))
      (λ f. sym (sum_total f (map key ys)) ∙ sum_by-IsPermutation f (map key xs) (map key ys) (IsPermutation-map key xs ys p) ∙ sum_total f (map key xs) ∙ sym (sorted_total f (map key xs)))

-- the definition is a rearrangement, and it increases

names_moved : (a b : List ℕ) (ns : List (List ℕ)) (t : Bool) → IsPermutation (a ∷ ns) (with_name a ns) → IsPermutation (a ∷ b ∷ ns) (if t then a ∷ b ∷ ns else b ∷ with_name a ns)
names_moved a b ns true p = IsPermutation-refl (a ∷ b ∷ ns)
names_moved a b ns false p =
    IsPermutation-trans _ _ _ (IsPermutation-sym _ _ (IsPermutation-middle (b ∷ []) a ns)) (IsPermutation-cons b _ _ p)

with_name_same : (a : List ℕ) (ns : List (List ℕ)) → IsPermutation (a ∷ ns) (with_name a ns)
with_name_same a [] = IsPermutation-refl (a ∷ [])
with_name_same a (b ∷ ns) = names_moved a b ns (before a b) (with_name_same a ns)

sorted_same : (ns : List (List ℕ)) → IsPermutation ns (sorted_names ns)
sorted_same [] = IsPermutation-refl []
sorted_same (a ∷ ns) = IsPermutation-trans _ _ _ (IsPermutation-cons a _ _ (sorted_same ns)) (with_name_same a (sorted_names ns))

at_place : (a b : List ℕ) (ns : List (List ℕ)) → before b a ≡ false → IsSortedBy before (b ∷ ns) → (k : ℕ) (d : List ℕ) → k + 1 < length (a ∷ b ∷ ns)
    → before (slice_index_or (a ∷ b ∷ ns) (k + 1) d) (slice_index_or (a ∷ b ∷ ns) k d) ≡ false
at_place a b ns first rest zero d high = first
at_place a b ns first rest (suc k) d high =
    let next : suc k + 1 ≡ suc (k + 1) = omega arith in
    subst (λ n. before (slice_index_or (a ∷ b ∷ ns) n d) (slice_index_or (b ∷ ns) k d) ≡ false) (sym next)
    (rest k d (omega arith) (omega (arith, high)))

rising_sorted : (ns : List (List ℕ)) → Rising ns → IsSortedBy before ns
rising_sorted [] r = λ k d low high. absurd (let no : k + 1 < 0 = high in omega arith)
rising_sorted (a ∷ []) r = λ k d low high. absurd (let no : k + 1 < 1 = high in omega arith)
rising_sorted (a ∷ b ∷ ns) r = λ k d low high. at_place a b ns r.0.0 (rising_sorted (b ∷ ns) r.1) k d high

map_itself : (ns : List (List ℕ)) → map (λ n. n) ns ≡ ns
map_itself [] = refl
map_itself (a ∷ ns) = ap (λ l. a ∷ l) (map_itself ns)

-- the sorted names are the one increasing list of the same names
pub only_increasing : (names others : List (List ℕ)) → (others ≡ sorted_names names → IsIncreasing names others) × (IsIncreasing names others → others ≡ sorted_names names)
only_increasing names others = (
  λ is. rw is (sorted_same names, rising_sorted (sorted_names names) (sorted_rises names)),
  λ h. sym (map_itself others) ∙ sorted_is (λ n. n) names others h.0 h.1 ∙ ap sorted_names (map_itself names),
)
