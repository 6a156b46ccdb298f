-- The first of the greatest stands first in the ranked list.
use Rattle.std.proofs.Common.{subst, map, Option, None, Some, ◌≡◌, ◌<◌, ◌≤◌, ◌&&◌, ℕ, zero, suc, ◌+◌, Bool, true, false, not, List, [], ◌∷◌, length, filter, get_or, cond, refl, sym, arith, ap, ◌∙◌}
use Rattle.std.specs.Ordering.{is_lt, nat_cmp}
use Rattle.std.specs.List.Sorted.{IsPermutation, IsSortedBy, ties}
use Rattle.std.proofs.lemmas.List.Sorted.{IsPermutation-map, length_permutation}
use Rattle.std.proofs.lemmas.Bool.Decides.{nat_tests}
use Rattle.web_texts.specs.declared.media.quality_item.QualityItem.{QualityItem}
use Rattle.web_negotiate.specs.ChoiceLaws.{HasWanted}
use Rattle.web_negotiate.specs.Rankings.{above, IsRanked, IsRanking, IsFirst, IsGreatest, IsPreference, or_otherwise}

pub at_most : (a b : ℕ) → is_lt (nat_cmp a b) ≡ false → b ≤ a
at_most a b e = grind (arith, nat_tests)

pub not_less : (a b : ℕ) → b ≤ a → is_lt (nat_cmp a b) ≡ false
not_less a b e = grind (arith, nat_tests)

pub less : (a b : ℕ) → a < b → is_lt (nat_cmp a b) ≡ true
less a b e = grind (arith, nat_tests)

both_not : (a b : Bool) → (not a && not b) ≡ true → (a ≡ false) × (b ≡ false)
both_not true b e = absurd (cc)
both_not false true e = absurd (cc)
both_not false false e = (refl, refl)

-- items tie where their ranks are equal
pub tied : {X : Type 0} (rank : X → ℕ) (x y : X) → rank x ≡ rank y → ties (above rank) x y ≡ true
tied rank x y e = rw (not_less (rank y) (rank x) (omega (arith, e)), not_less (rank x) (rank y) (omega (arith, e))) refl

pub equal_where : {X : Type 0} (rank : X → ℕ) (x y : X) → ties (above rank) x y ≡ true → rank x ≡ rank y
equal_where rank x y e =
    let k = both_not (above rank x y) (above rank y x) e in
    omega (arith, at_most (rank y) (rank x) k.0, at_most (rank x) (rank y) k.1)

untied : {X : Type 0} (rank : X → ℕ) (x y : X) → rank y < rank x → ties (above rank) x y ≡ false
untied rank x y e = rw (less (rank y) (rank x) e) refl

kept_more : {X : Type 0} (p : X → Bool) (x : X) (xs : List X) (b : Bool) → 0 < length (filter p xs) → 0 < length (cond b (x ∷ filter p xs) (filter p xs))
kept_more p x xs true some = omega arith
kept_more p x xs false some = some

-- where an item passes, some are kept
some_kept : {X : Type 0} (p : X → Bool) (xs : List X) (i : ℕ) (d : X) → i < length xs → p (get_or xs i d) ≡ true → 0 < length (filter p xs)
some_kept p [] i d inside e = absurd (omega (arith, inside))
some_kept p (x ∷ xs) zero d inside e = rw e (omega arith)
some_kept p (x ∷ xs) (suc i) d inside e = kept_more p x xs (p x) (some_kept p xs i d (omega (arith, inside)) e)

abbrev Found : {X : Type 0} → (X → Bool) → List X → X → Type 0
Found p xs d = (i : ℕ) × (i < length xs) × (p (get_or xs i d) ≡ true)

found_step : {X : Type 0} (p : X → Bool) (x : X) (xs : List X) (d : X) (b : Bool) → p x ≡ b → 0 < length (cond b (x ∷ filter p xs) (filter p xs)) → (0 < length (filter p xs) → Found p xs d) → Found p (x ∷ xs) d
found_step p x xs d true e some next = (0, omega arith, e)
found_step p x xs d false e some next = let f = next some in (suc f.0, omega (arith, f.1), f.2)

-- and where some are kept, one passes
found : {X : Type 0} (p : X → Bool) (xs : List X) (d : X) → 0 < length (filter p xs) → Found p xs d
found p [] d some = absurd (omega (arith, some))
found p (x ∷ xs) d some = found_step p x xs d (p x) refl some (found p xs d)

-- the first that passes is the first that is kept
head_at : {X : Type 0} (p : X → Bool) (xs : List X) (i : ℕ) (d : X) → i < length xs → p (get_or xs i d) ≡ true → ((k : ℕ) → k < i → p (get_or xs k d) ≡ false) → get_or (filter p xs) 0 d ≡ get_or xs i d
head_at p [] i d inside e before = absurd (omega (arith, inside))
head_at p (x ∷ xs) zero d inside e before = rw e refl
head_at p (x ∷ xs) (suc i) d inside e before =
    let first : p x ≡ false = before 0 (omega arith) in
    rw first (head_at p xs i d (omega (arith, inside)) e (λ k l. before (suc k) (omega (arith, l))))

-- none stands above the first
below_first : {X : Type 0} (rank : X → ℕ) (ys : List X) (d : X) → IsSortedBy (above rank) ys → (k : ℕ) → k < length ys → rank (get_or ys k d) ≤ rank (get_or ys 0 d)
below_first rank ys d falls zero inside = omega arith
below_first rank ys d falls (suc k) inside =
    let step : rank (get_or ys (k + 1) d) ≤ rank (get_or ys k d) = at_most _ _ (falls k d (omega arith) (omega (arith, inside))) in
    let same : rank (get_or ys (suc k) d) ≡ rank (get_or ys (k + 1) d) = ap (λ (j : ℕ). rank (get_or ys j d)) (omega arith) in
    omega (arith, step, same, below_first rank ys d falls k (omega (arith, inside)))

pub first_ranked : {X : Type 0} (rank : X → ℕ) (xs ys : List X) (i : ℕ) (d : X) → IsRanked rank xs ys → IsFirst rank xs i → get_or ys 0 d ≡ get_or xs i d
first_ranked {X} rank xs ys i d ranked first =
    let x : X = get_or xs i d in
    let p : X → Bool = ties (above rank) x in
    let kept : filter p ys ≡ filter p xs = ranked.keeps x in
    let here : p (get_or xs i d) ≡ true = tied rank x x refl in
    let there = found p ys d (rw kept (some_kept p xs i d first.inside here)) in
    let y : X = get_or ys 0 d in
    let some : 0 < length ys = omega (arith, there.1) in
    let up : rank x ≤ rank y = omega (arith, below_first rank ys d ranked.falls there.0 there.1, equal_where rank x (get_or ys there.0 d) there.2) in
    let q : X → Bool = ties (above rank) y in
    let back = found q xs d (rw (← ranked.keeps y) (some_kept q ys 0 d some (tied rank y y refl))) in
    let down : rank y ≤ rank x = omega (arith, equal_where rank y (get_or xs back.0 d) back.2, first.greatest back.0 d back.1) in
    let ends : p (get_or ys 0 d) ≡ true = tied rank x y (omega (arith, up, down)) in
    sym (head_at p ys 0 d some ends (λ k l. absurd (omega (arith, l)))) ∙ ap (λ l. get_or l 0 d) kept
    ∙ head_at p xs i d first.inside here (λ k l. untied rank x (get_or xs k d) (first.first k d l))

-- The laws of rankings and preferences.

pub permuted : {T : Type 0} (rank : QualityItem T → ℕ) (xs : List (QualityItem T)) (ranked : List T) → IsRanking rank xs ranked → IsPermutation (map (λ x. x.item) xs) ranked
permuted {T} rank xs ranked r =
    subst (λ (ys : List T). IsPermutation (map (λ x. x.item) xs) ys) (sym r.are)
    (IsPermutation-map (λ x. x.item) xs r.ranked r.is_ranked.same)

first_item : {T : Type 0} (xs : List (QualityItem T)) (d : T) (e : QualityItem T) → 0 < length xs → get_or (map (λ x. x.item) xs) 0 d ≡ (get_or xs 0 e).item
first_item [] d e some = absurd (omega (arith, some))
first_item (x ∷ xs) d e some = refl

some_ranked : {X : Type 0} (rank : X → ℕ) (xs ys : List X) → IsRanked rank xs ys → 0 < length xs → 0 < length ys
some_ranked rank xs ys r some = rw (length_permutation xs ys r.same) some

greatest_first : {T : Type 0} (xs sorted : List (QualityItem T)) (otherwise given d : T) (best : Option (QualityItem T)) → IsRanked (λ x. x.quality) xs sorted → IsGreatest (λ x. x.quality) xs best → given ≡ or_otherwise (λ x. x.item) otherwise best → HasWanted xs
    → get_or (map (λ x. x.item) sorted) 0 d ≡ given
greatest_first {T} xs sorted otherwise given d None r none is wanted =
    let zero_there : (get_or xs wanted.0 wanted.1).quality ≡ 0 = none wanted.0 wanted.1 wanted.2 in
    absurd (omega (arith, rw wanted.3 at zero_there, wanted.4))
greatest_first {T} xs sorted otherwise given d (Some x) r found is wanted =
    first_item sorted d x (some_ranked (λ y. y.quality) xs sorted r (omega (arith, found.1.inside)))
    ∙ (ap (λ (y : QualityItem T). y.item) (first_ranked (λ y. y.quality) xs sorted found.0 x r found.1 ∙ found.2) ∙ sym is)

pub preferred_first : {T : Type 0} (xs : List (QualityItem T)) (ranked : List T) (otherwise given d : T) → IsRanking (λ x. x.quality) xs ranked → IsPreference (λ x. x.quality) xs otherwise given → HasWanted xs → get_or ranked 0 d ≡ given
preferred_first xs ranked otherwise given d r p wanted =
    ap (λ ys. get_or ys 0 d) r.are ∙ greatest_first xs r.ranked otherwise given d p.greatest r.is_ranked p.is_greatest p.is wanted

none_wanted : {T : Type 0} (xs : List (QualityItem T)) (otherwise given : T) (best : Option (QualityItem T)) → IsGreatest (λ x. x.quality) xs best → given ≡ or_otherwise (λ x. x.item) otherwise best → (HasWanted xs → ⊥) → given ≡ otherwise
none_wanted xs otherwise given None none is unwanted = is
none_wanted {T} xs otherwise given (Some x) found is unwanted =
    absurd (unwanted (found.0, x, found.1.inside, found.2, subst (λ (y : QualityItem T). 0 < y.quality) found.2 (found.1.some x)))

pub otherwise_preferred : {T : Type 0} (xs : List (QualityItem T)) (otherwise given : T) → IsPreference (λ x. x.quality) xs otherwise given → (HasWanted xs → ⊥) → given ≡ otherwise
otherwise_preferred xs otherwise given p unwanted = none_wanted xs otherwise given p.greatest p.is_greatest p.is unwanted
