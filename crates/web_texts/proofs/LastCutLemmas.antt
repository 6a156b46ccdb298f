-- Lists that are cut at the last element that passes a test.
use Rattle.std.proofs.Common.{◌≡◌, ◌+◌, ◌-◌, Bool, true, false, not, ◌||◌, List, [], ◌∷◌, ◌++◌, cond, length, reverse, take, refl, sym, ◌∙◌, arith, append_assoc, length-append}
use Rattle.std.proofs.Math.Seq.{drop-append-add, take-append_seam}
use Rattle.std.specs.List.{prefix_len, suffix_len, list_any, before_first, before_last, after_last}
use Rattle.std.proofs.lemmas.List.{reverse-append, length-reverse}
use Rattle.std.proofs.lemmas.List.Folds.{list_any-append}
use Rattle.std.proofs.lemmas.Grind.{common_steps}

pub or_false : (a b : Bool) → (a || b) ≡ false → (a ≡ false) × (b ≡ false)
or_false true b e = absurd (cc)
or_false false b e = (refl, e)

-- where none before passes, the first that passes stands after them
pub stop : {X : Type 0} (p : X → Bool) (xs : List X) (x : X) (ys : List X) → list_any p xs ≡ false → p x ≡ true → prefix_len (λ y. not (p y)) (xs ++ x ∷ ys) ≡ length xs
stop p [] x ys none e = rw e refl
stop p (z ∷ xs) x ys none e =
    let parts = or_false (p z) (list_any p xs) none in
    rw parts.0 (omega (arith, stop p xs x ys parts.1 e))

pub list_any-reverse : {X : Type 0} (p : X → Bool) (xs : List X) → list_any p xs ≡ false → list_any p (reverse xs) ≡ false
list_any-reverse p [] none = refl
list_any-reverse p (x ∷ xs) none =
    let parts = or_false (p x) (list_any p xs) none in
    rw (reverse-append (x ∷ []) xs, list_any-append, list_any-reverse p xs parts.1, parts.0) refl

-- what stands after the last one that passes
pub after_last_at : {X : Type 0} (p : X → Bool) (front : List X) (x : X) (rest : List X) → p x ≡ true → list_any p rest ≡ false → after_last p (front ++ x ∷ rest) ≡ rest
after_last_at p front x rest e none =
    let back : reverse (front ++ x ∷ rest) ≡ reverse rest ++ x ∷ reverse front =
    rw (reverse-append front (x ∷ rest), reverse-append (x ∷ []) rest) (append_assoc (reverse rest) (x ∷ []) (reverse front)) in
    let len : suffix_len (λ y. not (p y)) (front ++ x ∷ rest) ≡ length rest = rw back (stop p (reverse rest) x (reverse front) (list_any-reverse p rest none) e ∙ length-reverse rest) in
    let behind : length (front ++ x ∷ rest) - length rest ≡ length front + 1 = simp length-append (omega arith) in
    rw (len, behind, drop-append-add front (x ∷ rest) 1) refl

-- `before_first`, by the first element
pub before_first-cons : {X : Type 0} (p : X → Bool) (x : X) (xs : List X) → before_first p (x ∷ xs) ≡ cond (p x) [] (x ∷ before_first p xs)
before_first-cons p x xs =
    elim (p x) as (λ b. take (cond (not b) (1 + prefix_len (λ y. not (p y)) xs) 0) (x ∷ xs) ≡ cond b [] (x ∷ take (prefix_len (λ y. not (p y)) xs) xs)) [
      | true ↦ refl
      | false ↦ grind (arith, common_steps)
    ]

-- what stands from one that passes on makes no difference to what stands before the first
pub before_first_at : {X : Type 0} (p : X → Bool) (front : List X) (x : X) (rest : List X) → p x ≡ true → before_first p (front ++ x ∷ rest) ≡ before_first p front
before_first_at p [] x rest e = before_first-cons p x rest ∙ rw e refl
before_first_at p (z ∷ front) x rest e =
    before_first-cons p z (front ++ x ∷ rest) ∙ rw (before_first_at p front x rest e) (sym (before_first-cons p z front))

-- where none passes, all stand before
pub before_first_none : {X : Type 0} (p : X → Bool) (xs : List X) → list_any p xs ≡ false → before_first p xs ≡ xs
before_first_none p [] none = refl
before_first_none p (x ∷ xs) none =
    let parts = or_false (p x) (list_any p xs) none in
    before_first-cons p x xs ∙ rw (parts.0, before_first_none p xs parts.1) refl

-- what stands before the last one that passes
pub before_last_at : {X : Type 0} (p : X → Bool) (front : List X) (x : X) (rest : List X) → p x ≡ true → list_any p rest ≡ false → before_last p (front ++ x ∷ rest) ≡ front
before_last_at p front x rest e none =
    let back : reverse (front ++ x ∷ rest) ≡ reverse rest ++ x ∷ reverse front =
    rw (reverse-append front (x ∷ rest), reverse-append (x ∷ []) rest) (append_assoc (reverse rest) (x ∷ []) (reverse front)) in
    let len : suffix_len (λ y. not (p y)) (front ++ x ∷ rest) ≡ length rest = rw back (stop p (reverse rest) x (reverse front) (list_any-reverse p rest none) e ∙ length-reverse rest) in
    let before : length (front ++ x ∷ rest) - length rest - 1 ≡ length front = simp length-append (omega arith) in
    rw (len, before) (take-append_seam front (x ∷ rest))

at_head : {X : Type 0} (p : X → Bool) (x : X) (front : List X) (b : Bool) → p x ≡ b → list_any p front ≡ false → list_any p (cond b [] (x ∷ front)) ≡ false
at_head p x front true e none = refl
at_head p x front false e none = rw e none

-- none passes before the first that does
pub none_before : {X : Type 0} (p : X → Bool) (xs : List X) → list_any p (before_first p xs) ≡ false
none_before p [] = refl
none_before p (x ∷ xs) = rw (before_first-cons p x xs) (at_head p x (before_first p xs) (p x) refl (none_before p xs))
