use Rattle.std.proofs.Common.{◌≡◌, map, take}
use Rattle.board_store.specs.BoardRows.{item_in}
use Rattle.board_store.proofs.rows.items_of.Given as goal

abbrev pub invariant-loop-row : goal.invariant-loop-row
invariant-loop-row l = l.items.items ≡ map item_in (take l.row-index l.rows)
