-- A path that is not empty, and the folder of all.
use Rattle.std.proofs.Common.{◌≡◌, ℕ, ◌==◌, true, false, List, [], ◌∷◌, ◌++◌, length, refl, sym, arith}
use Rattle.std.proofs.lemmas.Bool.{true≢false, eqb-true}
use Rattle.web_files.specs.OpenedPaths.{or_slash}

pub path-some : (text : List ℕ) → (length text == 0) ≡ false → text ≡ or_slash text
path-some [] h = absurd (true≢false h)
path-some (b ∷ rest) h = refl

pub path-none : (text : List ℕ) → (length text == 0) ≡ true → text ++ 47 ∷ [] ≡ or_slash text
path-none [] h = refl
path-none (b ∷ rest) h = absurd (omega (arith, eqb-true (length (b ∷ rest)) 0 h))
