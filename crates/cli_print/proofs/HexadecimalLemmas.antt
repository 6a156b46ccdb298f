-- Digits of bytes, one after another.
use Rattle.std.proofs.Common.{◌≡◌, ℕ, ◌/◌, ◌%◌, List, [], ◌∷◌, ◌++◌, take, drop, take-append-drop, refl, ap}
use Rattle.std.specs.Prelude.{slice_index}
use Rattle.hex.specs.Hex.{encode_lower, encode_with, lower_digits}

pub encode_append : (xs ys : List ℕ) → encode_lower (xs ++ ys) ≡ encode_lower xs ++ encode_lower ys
unfolding encode_with
encode_append [] ys = refl
encode_append (b ∷ xs) ys = ap (λ l. slice_index lower_digits (b / 16) ∷ slice_index lower_digits (b % 16) ∷ l) (encode_append xs ys)

-- the digits of a front and of the rest are the digits of all
pub encode_cut : (n : ℕ) (xs : List ℕ) → encode_lower (take n xs) ++ encode_lower (drop n xs) ≡ encode_lower xs
encode_cut n xs = rw (← encode_append (take n xs) (drop n xs), take-append-drop n xs) refl
