-- Lists in print.
use Rattle.std.specs.Prelude.{ℕ, List, ◌∷◌, [], flat_map}
use Rattle.std.specs.List.{join_by}

-- the items with `, ` between them
abbrev pub comma_joined : {T : Type 0} → (T → List ℕ) → List T → List ℕ
comma_joined text items = join_by text (44 ∷ 32 ∷ []) items

-- the items with `, ` before each
abbrev pub later_items : {T : Type 0} → (T → List ℕ) → List T → List ℕ
later_items text items = flat_map (λ x. 44 ∷ 32 ∷ text x) items
