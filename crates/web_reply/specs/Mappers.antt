-- Mappers of replies.
use Rattle.std.specs.Prelude.{◌≡◌, List, [], ◌∷◌}

-- the mappers in order, each on what the one before made, take the first reply to the last
abbrev pub RunsAll : {M R : Type 0} → (M → R → R → Type 0) → List M → R → R → Type 0
RunsAll maps [] first last = first ≡ last
RunsAll {M} {R} maps (m ∷ more) first last =
    (next : R) × maps m first next × RunsAll maps more next last
