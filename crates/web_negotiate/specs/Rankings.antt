-- Items in the order of their ranks, and the first of the greatest.
use Rattle.std.specs.Prelude.{◌≡◌, ◌<◌, ◌≤◌, ℕ, Bool, List, [], ◌∷◌, map, length, slice_index_or}
use Rattle.std.specs.Prelude.{Option, None, Some, if◌then◌else◌}
use Rattle.std.specs.Ordering.{is_lt, nat_cmp}
use Rattle.std.specs.List.Sorted.{IsPermutation, IsSortedBy, IsStableBy}
use Rattle.web_texts.specs.declared.media.quality_item.QualityItem.{QualityItem}

-- x is to stand before y
abbrev pub above : {X : Type 0} → (X → ℕ) → X → X → Bool
above rank x y = is_lt (nat_cmp (rank y) (rank x))

-- a rearrangement in which a greater item stands before a lesser one and equal ones keep their
-- order
pub record IsRanked {X : Type 0} (rank : X → ℕ) (xs ys : List X) : Type 0 where
  pub same : IsPermutation xs ys
  pub falls : IsSortedBy (above rank) ys
  pub keeps : IsStableBy (above rank) xs ys

-- the list with one more item, which stands before the first that is not greater
abbrev pub with_item : {X : Type 0} → (X → ℕ) → X → List X → List X
with_item rank x [] = x ∷ []
with_item rank x (y ∷ ys) =
    if above rank y x then y ∷ with_item rank x ys else x ∷ y ∷ ys

-- the items ranked; `ranking_law` says that there is no other such list
abbrev pub ranked_by : {X : Type 0} → (X → ℕ) → List X → List X
ranked_by rank [] = []
ranked_by rank (x ∷ xs) = with_item rank x (ranked_by rank xs)

-- the items of a list with qualities, ranked
pub record IsRanking {T : Type 0} (rank : QualityItem T → ℕ) (xs : List (QualityItem T))
    (items : List T) : Type 0 where
  pub ranked : List (QualityItem T)
  pub is_ranked : IsRanked rank xs ranked
  pub are : items ≡ map (λ x. x.item) ranked

-- the place of the first of the greatest above zero
pub record IsFirst {X : Type 0} (rank : X → ℕ) (xs : List X) (i : ℕ) : Type 0 where
  pub inside : i < length xs
  pub some : (d : X) → 0 < rank (slice_index_or xs i d)
  pub greatest : (k : ℕ) (d : X) → k < length xs
      → rank (slice_index_or xs k d) ≤ rank (slice_index_or xs i d)
  pub first : (k : ℕ) (d : X) → k < i
      → rank (slice_index_or xs k d) < rank (slice_index_or xs i d)

-- that place, or nothing where every item is zero
abbrev pub IsFirstGreatest : {X : Type 0} → (X → ℕ) → List X → Option ℕ → Type 0
IsFirstGreatest {X} rank xs None =
    (k : ℕ) (d : X) → k < length xs → rank (slice_index_or xs k d) ≡ 0
IsFirstGreatest rank xs (Some i) = IsFirst rank xs i

-- the same, of the item in place of its place
abbrev pub IsGreatest : {X : Type 0} → (X → ℕ) → List X → Option X → Type 0
IsGreatest {X} rank xs None =
    (k : ℕ) (d : X) → k < length xs → rank (slice_index_or xs k d) ≡ 0
IsGreatest rank xs (Some x) = (i : ℕ) × IsFirst rank xs i × (slice_index_or xs i x ≡ x)

abbrev pub or_otherwise : {X Y : Type 0} → (X → Y) → Y → Option X → Y
or_otherwise item otherwise None = otherwise
or_otherwise item otherwise (Some x) = item x

-- the first item of greatest rank above zero, and another value where there is none
pub record IsPreference {T : Type 0} (rank : QualityItem T → ℕ) (xs : List (QualityItem T))
    (otherwise given : T) : Type 0 where
  pub greatest : Option (QualityItem T)
  pub is_greatest : IsGreatest rank xs greatest
  pub is : given ≡ or_otherwise (λ x. x.item) otherwise greatest

abbrev pub quality_rank : {T : Type 0} → QualityItem T → ℕ
quality_rank x = x.quality
