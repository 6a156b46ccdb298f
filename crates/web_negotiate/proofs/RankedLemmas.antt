-- There is one ranking of a list.
use Rattle.std.proofs.Common.{◌≡◌, ◌<◌, ◌≤◌, ℕ, zero, suc, ◌+◌, Bool, true, false, ◌&&◌, List, [], ◌∷◌, map, length, filter, get_or, cond, refl, sym, arith, ap, ◌∙◌}
use Rattle.std.specs.Prelude.{⊤}
use Rattle.std.specs.Ordering.{is_lt, nat_cmp}
use Rattle.std.specs.List.Sorted.{IsSortedBy, ties}
use Rattle.std.proofs.lemmas.Bool.Decides.{nat_tests}
use Rattle.web_texts.specs.declared.media.quality_item.QualityItem.{QualityItem}
use Rattle.web_negotiate.specs.Rankings.{above, IsRanked, IsRanking, ranked_by, with_item}
use Rattle.web_negotiate.proofs.RankingLemmas.{at_most, not_less, tied, equal_where}

swapped : {X : Type 0} (a b : Bool) (x y : X) (rest : List X) → (a && b) ≡ false
    → cond b (y ∷ cond a (x ∷ rest) rest) (cond a (x ∷ rest) rest) ≡ cond a (x ∷ cond b (y ∷ rest) rest) (cond b (y ∷ rest) rest)
swapped true true x y rest e = absurd (cc)
swapped true false x y rest e = refl
swapped false b x y rest e = refl

drop_first : {X : Type 0} (b : Bool) (y : X) (f g : List X) → cond b (y ∷ f) f ≡ cond b (y ∷ g) g → f ≡ g
drop_first true y f g e = cc
drop_first false y f g e = e

not_greater : (a b : ℕ) → is_lt (nat_cmp a b) ≡ true → a ≤ b
not_greater a b e = grind (arith, nat_tests)

module _ {X : Type 0} (rank : X → ℕ) where
  -- items of which one stands above the other do not both tie with a third
  not_both : (z x y : X) → above rank y x ≡ true → (a b : Bool) → ties (above rank) z x ≡ a → ties (above rank) z y ≡ b → (a && b) ≡ false
  not_both z x y e false b is_a is_b = refl
  not_both z x y e true false is_a is_b = refl
  not_both z x y e true true is_a is_b =
      let same : rank x ≡ rank y = sym (equal_where rank z x is_a) ∙ equal_where rank z y is_b in
      let none : above rank y x ≡ false = not_less (rank x) (rank y) (omega (arith, same)) in
      let no : true ≡ false = sym e ∙ none in
      absurd (cc)

  kept_step : (z x y : X) (ys : List X) (b : Bool) → above rank y x ≡ b
      → filter (ties (above rank) z) (with_item rank x ys) ≡ filter (ties (above rank) z) (x ∷ ys)
      → filter (ties (above rank) z) (cond b (y ∷ with_item rank x ys) (x ∷ y ∷ ys)) ≡ filter (ties (above rank) z) (x ∷ y ∷ ys)
  kept_step z x y ys false e rest = refl
  kept_step z x y ys true e rest =
      rw rest
      (swapped (ties (above rank) z x) (ties (above rank) z y) x y (filter (ties (above rank) z) ys)
      (not_both z x y e (ties (above rank) z x) (ties (above rank) z y) refl refl))

  -- those that tie with an item, of a list with one more
  kept_with : (z x : X) (ys : List X) → filter (ties (above rank) z) (with_item rank x ys) ≡ filter (ties (above rank) z) (x ∷ ys)
  kept_with z x [] = refl
  kept_with z x (y ∷ ys) = kept_step z x y ys (above rank y x) refl (kept_with z x ys)

  kept_all : (z : X) (xs : List X) → filter (ties (above rank) z) (ranked_by rank xs) ≡ filter (ties (above rank) z) xs
  kept_all z [] = refl
  kept_all z (x ∷ xs) = kept_with z x (ranked_by rank xs) ∙ rw (kept_all z xs) refl

  -- each item has at most this rank
  AllLe : ℕ → List X → Type 0
  AllLe n [] = ⊤
  AllLe n (y ∷ ys) = (rank y ≤ n) × AllLe n ys

  -- no item is exceeded by one after it
  Falls : List X → Type 0
  Falls [] = ⊤
  Falls (y ∷ ys) = AllLe (rank y) ys × Falls ys

  raised : (n k : ℕ) (ys : List X) → n ≤ k → AllLe n ys → AllLe k ys
  unfolding AllLe
  raised n k [] le all = tt
  raised n k (y ∷ ys) le all = (omega (arith, le, all.0), raised n k ys le all.1)

  all_le_step : (n : ℕ) (x y : X) (ys : List X) (b : Bool) → rank x ≤ n → AllLe n (y ∷ ys) → AllLe n (with_item rank x ys) → AllLe n (cond b (y ∷ with_item rank x ys) (x ∷ y ∷ ys))
  unfolding AllLe
  all_le_step n x y ys true le all rest = (all.0, rest)
  all_le_step n x y ys false le all rest = (le, all)

  all_le_with : (n : ℕ) (x : X) (ys : List X) → rank x ≤ n → AllLe n ys → AllLe n (with_item rank x ys)
  unfolding AllLe
  all_le_with n x [] le all = (le, tt)
  all_le_with n x (y ∷ ys) le all = all_le_step n x y ys (above rank y x) le all (all_le_with n x ys le all.1)

  falls_step : (x y : X) (ys : List X) (b : Bool) → above rank y x ≡ b → Falls (y ∷ ys) → Falls (with_item rank x ys) → Falls (cond b (y ∷ with_item rank x ys) (x ∷ y ∷ ys))
  unfolding AllLe Falls
  falls_step x y ys true e falls rest =
      let le : rank x ≤ rank y = not_greater (rank x) (rank y) e in
      (all_le_with (rank y) x ys le falls.0, rest)
  falls_step x y ys false e falls rest =
      let le : rank y ≤ rank x = at_most (rank x) (rank y) e in
      ((le, raised (rank y) (rank x) ys le falls.0), falls)

  falls_with : (x : X) (ys : List X) → Falls ys → Falls (with_item rank x ys)
  unfolding Falls AllLe
  falls_with x [] falls = (tt, tt)
  falls_with x (y ∷ ys) falls = falls_step x y ys (above rank y x) refl falls (falls_with x ys falls.1)

  falls_ranked : (xs : List X) → Falls (ranked_by rank xs)
  unfolding Falls
  falls_ranked [] = tt
  falls_ranked (x ∷ xs) = falls_with x (ranked_by rank xs) (falls_ranked xs)

  -- no item is exceeded by the next
  Steps : List X → Type 0
  Steps ys = (k : ℕ) (d : X) → suc k < length ys → rank (get_or ys (suc k) d) ≤ rank (get_or ys k d)

  steps_sorted : (ys : List X) → IsSortedBy (above rank) ys → Steps ys
  unfolding Steps
  steps_sorted ys sorted k d inside =
      let step : rank (get_or ys (k + 1) d) ≤ rank (get_or ys k d) = at_most _ _ (sorted k d (omega arith) (omega (arith, inside))) in
      let same : rank (get_or ys (suc k) d) ≡ rank (get_or ys (k + 1) d) = ap (λ (j : ℕ). rank (get_or ys j d)) (omega arith) in
      omega (arith, step, same)

  falls_steps : (ys : List X) → Steps ys → Falls ys
  unfolding Steps Falls AllLe
  falls_steps [] steps = tt
  falls_steps (y ∷ []) steps = (tt, tt)
  falls_steps (y ∷ z ∷ ys) steps =
      let rest = falls_steps (z ∷ ys) (λ k d inside. steps (suc k) d (omega (arith, inside))) in
      let le : rank z ≤ rank y = steps zero y (omega arith) in
      ((le, raised (rank z) (rank y) ys le rest.0), rest)

  le_step : (n : ℕ) (y z : X) (zs : List X) (b : Bool) → ties (above rank) y z ≡ b → rank z ≤ n
      → 0 < length (cond b (z ∷ filter (ties (above rank) y) zs) (filter (ties (above rank) y) zs))
      → (0 < length (filter (ties (above rank) y) zs) → rank y ≤ n) → rank y ≤ n
  le_step n y z zs true e le some rest = omega (arith, equal_where rank y z e, le)
  le_step n y z zs false e le some rest = rest some

  -- an item that ties with one of these has at most their greatest rank
  le_where : (n : ℕ) (y : X) (zs : List X) → AllLe n zs → 0 < length (filter (ties (above rank) y) zs) → rank y ≤ n
  unfolding AllLe
  le_where n y [] all some = absurd (omega (arith, some))
  le_where n y (z ∷ zs) all some = le_step n y z zs (ties (above rank) y z) refl all.0 some (le_where n y zs all.1)

  -- the items of two lists that tie with a third are the same, for each
  Same : List X → List X → Type 0
  Same ys zs = (w : X) → filter (ties (above rank) w) ys ≡ filter (ties (above rank) w) zs

  some_first : (y : X) (ys : List X) → 0 < length (filter (ties (above rank) y) (y ∷ ys))
  some_first y ys = rw (tied rank y y refl) (omega arith)

  first_le : (y z : X) (ys zs : List X) → Falls (z ∷ zs) → Same (y ∷ ys) (z ∷ zs) → rank y ≤ rank z
  unfolding Falls AllLe Same
  first_le y z ys zs falls same = le_where (rank z) y (z ∷ zs) (omega arith, falls.0) (rw (← same y) (some_first y ys))

  same_first : (y z : X) (ys zs : List X) → rank y ≡ rank z → Same (y ∷ ys) (z ∷ zs) → y ≡ z
  unfolding Same
  same_first y z ys zs e same =
      let both : y ∷ filter (ties (above rank) y) ys ≡ z ∷ filter (ties (above rank) y) zs = rw (tied rank y y refl, tied rank y z e) at (same y) in
      cc

  same_rest : (y : X) (ys zs : List X) → Same (y ∷ ys) (y ∷ zs) → Same ys zs
  unfolding Same
  same_rest y ys zs same w = drop_first (ties (above rank) w y) y (filter (ties (above rank) w) ys) (filter (ties (above rank) w) zs) (same w)

  none_same : (z : X) (zs : List X) → Same [] (z ∷ zs) → ⊥
  unfolding Same
  none_same z zs same =
      let some : 0 < length (filter (ties (above rank) z) (z ∷ zs)) = some_first z zs in
      let none : length (filter (ties (above rank) z) (z ∷ zs)) ≡ 0 = ap length (sym (same z)) in
      absurd (omega (arith, some, none))

  only : (ys zs : List X) → Falls ys → Falls zs → Same ys zs → ys ≡ zs
  unfolding Falls Same
  only [] [] falls_y falls_z same = refl
  only [] (z ∷ zs) falls_y falls_z same = absurd (none_same z zs same)
  only (y ∷ ys) [] falls_y falls_z same = absurd (none_same y ys (λ w. sym (same w)))
  only (y ∷ ys) (z ∷ zs) falls_y falls_z same =
      let up = first_le y z ys zs falls_z same in
      let down = first_le z y zs ys falls_y (λ w. sym (same w)) in
      let equal : y ≡ z = same_first y z ys zs (omega (arith, up, down)) same in
      let rest = same_rest y ys zs (rw (← equal) at same) in
      rw (← equal) (ap (λ l. y ∷ l) (only ys zs falls_y.1 falls_z.1 rest))

  ranked_only : (xs ys : List X) → IsRanked rank xs ys → ys ≡ ranked_by rank xs
  unfolding Same
  ranked_only xs ys ranked =
      only ys (ranked_by rank xs) (falls_steps ys (steps_sorted ys ranked.falls)) (falls_ranked xs)
      (λ w. ranked.keeps w ∙ sym (kept_all w xs))

pub ranking_only : {T : Type 0} (rank : QualityItem T → ℕ) (xs : List (QualityItem T)) (items : List T) → IsRanking rank xs items
    → items ≡ map (λ x. x.item) (ranked_by rank xs)
ranking_only rank xs items ranking = ranking.are ∙ ap (map (λ x. x.item)) (ranked_only rank xs ranking.ranked ranking.is_ranked)
