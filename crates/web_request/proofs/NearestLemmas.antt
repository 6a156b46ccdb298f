-- The layers one by one, the last one first.
use Rattle.std.proofs.Common.{◌≡◌, List, [], ◌∷◌, ◌++◌, Option, None, Some, refl, sym, ◌∙◌, ap}
use Rattle.std.specs.Option.{option_or}
use Rattle.std.specs.declared.rc.Rc.{Rc}
use Rattle.std.proofs.lemmas.List.{map-append}
use Rattle.web_request.specs.Shared.{values, values_behind}
use Rattle.web_request.specs.Nearest.{nearest}
use Rattle.web_texts.proofs.TestLemmas.{or_assoc}

or_none : {T : Type 0} (a : Option T) → option_or a None ≡ a
or_none None = refl
or_none (Some x) = refl

pub nearest_last : {L T : Type 0} (held : L → Option T) (layers : List L) (last : L) → nearest held (layers ++ last ∷ []) ≡ option_or (held last) (nearest held layers)
nearest_last held [] last = sym (or_none (held last))
nearest_last held (l ∷ layers) last = ap (λ o. option_or o (held l)) (nearest_last held layers last) ∙ sym (or_assoc (held last) (nearest held layers) (held l))

values-push : {X Z : Type 0} (before : List (Rc X Z)) (r : Rc X Z) → values (before ++ r ∷ []) ≡ values before ++ r.value ∷ []
values-push before r = map-append (λ s. s.value) before (r ∷ [])

pub behind-push : {X Z : Type 0} (root : Option (Rc X Z)) (before : List (Rc X Z)) (r : Rc X Z) → values_behind root (before ++ r ∷ []) ≡ values_behind root before ++ r.value ∷ []
behind-push None before r = values-push before r
behind-push (Some s) before r = ap (λ xs. s.value ∷ xs) (values-push before r)

nearest_behind : {X Z T : Type 0} (held : X → Option T) (root : Option (Rc X Z)) (left before : List (Rc X Z)) (r : Rc X Z) → left ≡ before ++ r ∷ []
    → nearest held (values_behind root left) ≡ option_or (held r.value) (nearest held (values_behind root before))
nearest_behind held root left before r is = rw (is, behind-push root before r) (nearest_last held (values_behind root before) r.value)

-- the last layer holds it
pub found : {X Z T : Type 0} (held : X → Option T) (root : Option (Rc X Z)) (left before : List (Rc X Z)) (r : Rc X Z) (x : X) (v : T) (all : Option T) → left ≡ before ++ r ∷ []
    → x ≡ r.value → held x ≡ Some v → nearest held (values_behind root left) ≡ all → Some v ≡ all
found held root left before r x v all is lent has so_far =
    let here : held r.value ≡ Some v = rw (sym lent) has in
    rw (← so_far, nearest_behind held root left before r is, here) refl

-- the last layer holds none
pub passed : {X Z T : Type 0} (held : X → Option T) (root : Option (Rc X Z)) (left before : List (Rc X Z)) (r : Rc X Z) (x : X) (all : Option T) → left ≡ before ++ r ∷ []
    → x ≡ r.value → held x ≡ None → nearest held (values_behind root left) ≡ all → nearest held (values_behind root before) ≡ all
passed held root left before r x all is lent has so_far =
    let here : held r.value ≡ None = rw (sym lent) has in
    rw (← so_far) (sym (nearest_behind held root left before r is ∙ rw here refl))
