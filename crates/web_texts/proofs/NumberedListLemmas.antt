-- One more member of a numbered list.
use Rattle.std.proofs.Common.{◌≡◌, ◌<◌, ℕ, ◌+◌, List, [], ◌∷◌, ◌++◌, length, take, get_or, ap, arith}
use Rattle.std.specs.List.{flat_map, enumerate_from}
use Rattle.std.proofs.lemmas.List.{take_more, length-take-le, append-nil}
use Rattle.std.proofs.lemmas.Grind.{flat_map-append}

pub enumerate_from-push : {X : Type 0} (n m : ℕ) (xs : List X) (x : X) → m ≡ n + length xs → enumerate_from n (xs ++ x ∷ []) ≡ enumerate_from n xs ++ (m, x) ∷ []
enumerate_from-push n m [] x e = ap (λ (k : ℕ). (k, x) ∷ []) (omega (arith, e))
enumerate_from-push n m (y ∷ xs) x e = ap (λ l. (n, y) ∷ l) (enumerate_from-push (n + 1) m xs x (omega (arith, e)))

pub numbered_more : {X Y : Type 0} (f : ℕ × X → List Y) (xs : List X) (i : ℕ) (x : X) → i < length xs → x ≡ get_or xs i x
    → flat_map f (enumerate_from 0 (take (i + 1) xs)) ≡ flat_map f (enumerate_from 0 (take i xs)) ++ f (i, x)
numbered_more f xs i x small is =
    let counted : i ≡ 0 + length (take i xs) = omega (arith, length-take-le i xs (omega (arith, small))) in
    rw (take_more xs i x small, ← is, enumerate_from-push 0 i (take i xs) x counted, flat_map-append f (enumerate_from 0 (take i xs)) ((i, x) ∷ []))
    (ap (λ l. flat_map f (enumerate_from 0 (take i xs)) ++ l) (append-nil (f (i, x))))
