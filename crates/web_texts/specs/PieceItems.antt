-- Items that stand in the pieces of a text. A piece is trimmed, and one that is blank has no item.
use Rattle.std.specs.Prelude.{◌≡◌, ℕ, ◌==◌, Bool, true, false, ◌||◌, List, [], ◌∷◌, ◌++◌, length}
use Rattle.std.specs.Prelude.{Option, None, Some, is_some, Result, Ok, Err, if◌then◌else◌}
use Rattle.std.specs.List.{flat_map, list_all}
use Rattle.std.specs.Option.{option_map}
use Rattle.web_texts.specs.Blanks.{trimmed}
use Rattle.web_texts.specs.declared.memory.Fail.{Fail}
use Rattle.web_texts.specs.declared.memory.Fail.TheVariants as fail

abbrev pub is_empty : List ℕ → Bool
is_empty text = length text == 0

abbrev pub one_or_none : {T : Type 0} → Option T → List T
one_or_none None = []
one_or_none (Some x) = x ∷ []

-- the item of a piece, if it has one that can be read
abbrev pub item_of_piece : {T : Type 0} → (List ℕ → Option T) → List ℕ → List T
item_of_piece read piece =
    if is_empty (trimmed piece) then [] else one_or_none (read (trimmed piece))

-- blank, or with an item that can be read
abbrev pub is_readable : {T : Type 0} → (List ℕ → Option T) → List ℕ → Bool
is_readable read piece = is_empty (trimmed piece) || is_some (read (trimmed piece))

-- the items of the pieces, if each piece that is not blank has one
abbrev pub all_items : {T : Type 0} → (List ℕ → Option T) → List (List ℕ) → Option (List T)
all_items read pieces =
    if list_all (is_readable read) pieces then Some (flat_map (item_of_piece read) pieces)
    else None

-- what was read, before the items that are left
abbrev pub with_front : {T : Type 0} → List T → Option (List T) → Option (List T)
with_front front items = option_map (λ rest. front ++ rest) items

-- A piece was read: its item stands at the end, if it is not blank. It is refused exactly where it
-- is not blank and has no item.
abbrev pub AddsPiece : {T U E : Type 0} → (List ℕ → Option T) → List ℕ → List T → List T
    → Result U (Fail E) → Type 0
AddsPiece read piece old new (Ok done) =
    (new ≡ old ++ item_of_piece read piece) × (is_readable read piece ≡ true)
AddsPiece read piece old new (Err fail.NoMemory) = Unit {0}
AddsPiece read piece old new (Err (fail.Of e)) = is_readable read piece ≡ false
