-- What `position` says of `position_or_len`.
use Rattle.std.proofs.Common.{◌≡◌, ◌≤◌, ℕ, ◌+◌, Bool, true, false, List, [], ◌∷◌, Some, None, cond, length, refl, arith}
use Rattle.std.specs.Prelude.{position, nat_lt}
use Rattle.std.specs.List.{prefix_len, position_or_len}
use Rattle.std.proofs.lemmas.Bool.Decides.{nat_tests}

split_none : (b : Bool) (n : ℕ) → cond b (Some n) None ≡ None → b ≡ false
split_none true n e = absurd (cc)
split_none false n e = refl

pub prefix_len-le : {X : Type 0} (p : X → Bool) (xs : List X) → prefix_len p xs ≤ length xs
prefix_len-le p [] = omega arith
prefix_len-le p (x ∷ xs) = elim (p x) as (λ b. cond b (1 + prefix_len p xs) 0 ≤ length (x ∷ xs)) [ true ↦ omega (arith, prefix_len-le p xs) | false ↦ omega arith ]

pub position_none : {X : Type 0} (p : X → Bool) (xs : List X) → position p xs ≡ None → position_or_len p xs ≡ length xs
position_none p xs e =
    let past : nat_lt (position_or_len p xs) (length xs) ≡ false = split_none _ _ e in
    let le : position_or_len p xs ≤ length xs = prefix_len-le _ xs in
    grind (arith, nat_tests)
