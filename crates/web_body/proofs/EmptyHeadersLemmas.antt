-- A map without names has no values.
use Rattle.std.proofs.Common.{◌≡◌, ◌==◌, ℕ, true, List, [], ◌∷◌, length, refl, arith}
use Rattle.std.specs.Prelude.{None}
use Rattle.std.proofs.lemmas.Bool.Decides.{nat_tests}
use Rattle.http_header.specs.HeaderMap.{Entries, get}

is_zero : (n : ℕ) → (n == 0) ≡ true → n ≡ 0
is_zero n e = grind (arith, nat_tests)

pub nothing_under : {X : Type 0} (m : Entries X) (name : List ℕ) → (length m == 0) ≡ true → get m name ≡ None
nothing_under [] name e = refl
nothing_under (entry ∷ m) name e = let none = is_zero (length (entry ∷ m)) e in absurd (omega (arith, none))
