-- Rows as items.
use Rattle.std.specs.Prelude.{ℤ, pos, List, [], ℕ, Option, not, option_map, slice_get}
use Rattle.std.specs.Ordering.{int_eq}
use Rattle.sqlite.specs.Order.{Row, column}
use Rattle.sqlite.specs.declared.types.Value.{Value}
use Rattle.sqlite.specs.declared.types.Value.TheVariants.{Int, Text as Words}
use Rattle.board_store.specs.declared.item.Item.{Item}

abbrev pub number_of : Value → ℤ
number_of (Int n) = n
number_of _ = pos 0

abbrev pub text_of : Value → List ℕ
text_of (Words text) = text
text_of _ = []

-- the item of a row with the columns id, title, seats and done
abbrev pub item_in : Row → Item
item_in row = record {
  id = number_of (column row 0);
  title = text_of (column row 1);
  seats = number_of (column row 2);
  done = not (int_eq (number_of (column row 3)) (pos 0));
}

-- A page has 100 items at most. Only a full one has another after it.
abbrev pub next_after : List Item → Option ℤ
next_after items = option_map (λ (it : Item). it.id) (slice_get items 99)
