-- References ranked by what they refer to.
use Rattle.std.proofs.Common.{◌≡◌, ◌+◌, ◌<◌, ◌≤◌, ℕ, Bool, true, false, List, [], ◌∷◌, length, map, filter, get_or, cond, refl, sym, ap, ◌∙◌, subst, arith}
use denote.Ref.{Bor}
use Rattle.std.specs.List.Sorted.{IsPermutation, IsSortedBy, IsStableBy, ties}
use Rattle.std.proofs.lemmas.List.{get_or-map, length-map}
use Rattle.std.proofs.lemmas.List.Sorted.{IsPermutation-map}
use Rattle.web_negotiate.specs.Rankings.{above, IsRanked}

kept_of_map : {X Y : Type 0} (p : Y → Bool) (f : X → Y) (x : X) (xs : List X) (b : Bool) → filter p (map f xs) ≡ map f (filter (λ z. p (f z)) xs)
    → cond b (f x ∷ filter p (map f xs)) (filter p (map f xs)) ≡ map f (cond b (x ∷ filter (λ z. p (f z)) xs) (filter (λ z. p (f z)) xs))
kept_of_map p f x xs true rest = ap (λ l. f x ∷ l) rest
kept_of_map p f x xs false rest = rest

filter_of_map : {X Y : Type 0} (p : Y → Bool) (f : X → Y) (xs : List X) → filter p (map f xs) ≡ map f (filter (λ x. p (f x)) xs)
filter_of_map p f [] = refl
filter_of_map p f (x ∷ xs) = kept_of_map p f x xs (p (f x)) (filter_of_map p f xs)

-- the rank of what a reference refers to
abbrev rank_of : {X : Type 0} → (X → ℕ) → Bor X → ℕ
rank_of rank r = rank r.now

abbrev values : {X : Type 0} → List (Bor X) → List X
values refs = map (λ r. r.now) refs

stable_at : {X : Type 0} (rank : X → ℕ) (xs ys : List (Bor X)) (r : Bor X) → IsStableBy (above (rank_of rank)) xs ys → IsStableBy (above rank) (values xs) (values ys)
stable_at {X} rank xs ys r keeps x =
    let at : Bor X = record r { now = x } in
    filter_of_map (ties (above rank) x) (λ s. s.now) ys
    ∙ (ap (λ l. values l) (keeps at) ∙ sym (filter_of_map (ties (above rank) x) (λ s. s.now) xs))

stable : {X : Type 0} (rank : X → ℕ) (xs ys : List (Bor X)) → IsStableBy (above (rank_of rank)) xs ys → IsStableBy (above rank) (values xs) (values ys)
stable rank [] [] keeps x = refl
stable rank [] (r ∷ ys) keeps x = stable_at rank [] (r ∷ ys) r keeps x
stable rank (r ∷ xs) ys keeps x = stable_at rank (r ∷ xs) ys r keeps x

sorted : {X : Type 0} (rank : X → ℕ) (ys : List (Bor X)) → IsSortedBy (above (rank_of rank)) ys → IsSortedBy (above rank) (values ys)
sorted rank [] falls k d low inside = absurd (omega (arith, inside))
sorted {X} rank (r ∷ ys) falls k d low inside =
    let few : k + 1 < length (r ∷ ys) = omega (arith, inside, length-map (r ∷ ys) (λ (s : Bor X). s.now)) in
    rw (
      get_or-map (λ (s : Bor X). s.now) (r ∷ ys) (k + 1) r d few,
      get_or-map (λ (s : Bor X). s.now) (r ∷ ys) k r d (omega (arith, few)),
    ) (falls k r low few)

-- the values of references in the order of the values' ranks
pub ranked_values : {X : Type 0} (rank : X → ℕ) (xs : List X) (refs ranked : List (Bor X)) → values refs ≡ xs → IsPermutation refs ranked
    → IsSortedBy (above (rank_of rank)) ranked → IsStableBy (above (rank_of rank)) refs ranked → IsRanked rank xs (values ranked)
ranked_values {X} rank xs refs ranked are same falls keeps = record {
  same = subst (λ (zs : List X). IsPermutation zs (values ranked)) are (IsPermutation-map (λ (r : Bor X). r.now) refs ranked same);
  falls = sorted rank ranked falls;
  keeps = subst (λ (zs : List X). IsStableBy (above rank) zs (values ranked)) are (stable rank refs ranked keeps);
}
