-- The values behind counted pointers.
use Rattle.std.specs.Prelude.{List, ◌∷◌, Option, None, Some, map}
use Rattle.std.specs.declared.rc.Rc.{Rc}

module _ {X Z : Type 0} where
  abbrev pub values : List (Rc X Z) → List X
  values rs = map (λ r. r.value) rs

  abbrev pub value_of : Option (Rc X Z) → Option X
  value_of None = None
  value_of (Some r) = Some r.value

  -- the value of the first pointer, if there is one, and those of the list
  abbrev pub values_behind : Option (Rc X Z) → List (Rc X Z) → List X
  values_behind None rs = values rs
  values_behind (Some r) rs = r.value ∷ values rs
