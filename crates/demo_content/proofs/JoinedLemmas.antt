-- References joined as what they refer to.
use Rattle.std.proofs.Common.{◌≡◌, ◌++◌, ℕ, List, [], ◌∷◌, map, refl, sym, ap}
use denote.Ref.{Bor}
use Rattle.std.proofs.lemmas.List.Folds.{flat_map-map}
use Rattle.web_headers.specs.PrintedLists.{comma_joined}

pub joined_values : {X : Type 0} (text : X → List ℕ) (refs : List (Bor X)) → comma_joined (λ r. text r.now) refs ≡ comma_joined text (map (λ r. r.now) refs)
joined_values text [] = refl
joined_values {X} text (r ∷ refs) = ap (λ (l : List ℕ). text r.now ++ l) (sym (flat_map-map (λ (y : X). (44 ∷ 32 ∷ []) ++ text y) (λ (s : Bor X). s.now) refs))
