-- Counted pointers that are shared once more.
use Rattle.std.proofs.Common.{◌≡◌, List, [], ◌∷◌, Option, None, Some, refl, sym}
use Rattle.std.proofs.lemmas.Option.{none-some, same_Some}
use Rattle.std.specs.List.{AllZip}
use Rattle.std.specs.declared.rc.Rc.{Rc}
use Rattle.web_request.specs.Shared.{value_of, values, values_behind}

pub values_again : {X Z : Type 0} (old new : List (Rc X Z))
    → AllZip (λ (r : Rc X Z) (s : Rc X Z). s.value ≡ r.value) old new → values new ≡ values old
values_again [] [] z = refl
values_again [] (s ∷ ss) z = elim z [ ]
values_again (r ∷ rs) [] z = elim z [ ]
values_again (r ∷ rs) (s ∷ ss) z = rw (z.0, values_again rs ss z.1) refl

pub behind_again : {X Z : Type 0} (root again : Option (Rc X Z)) (old new : List (Rc X Z))
    → value_of again ≡ value_of root → values new ≡ values old
    → values_behind again new ≡ values_behind root old
behind_again None None old new r e = e
behind_again None (Some s) old new r e = absurd (none-some s.value (sym r))
behind_again (Some q) None old new r e = absurd (none-some q.value r)
behind_again (Some q) (Some s) old new r e = rw (same_Some s.value q.value r, e) refl
