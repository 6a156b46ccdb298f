-- A text that is written part by part.
use Rattle.std.proofs.Common.{◌≡◌, ℕ, List, ◌++◌, Ok, Err, append_assoc}
use Rattle.std.specs.Prelude.{Result, OnOk}

pub two_parts : {E : Type 0} (r : Result (Unit {0}) E) (o a b x y : List ℕ) → x ≡ o ++ a → OnOk r (y ≡ x ++ b) → OnOk r (y ≡ o ++ (a ++ b))
two_parts (Ok u) o a b x y p h = rw (h, p) (append_assoc o a b)
two_parts (Err e) o a b x y p h = tt
