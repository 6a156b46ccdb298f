-- What a call of the board does to its database, and what it returns.
use Rattle.std.specs.Prelude.{◌≡◌, ◌≢◌, ◌⊎◌, ◌<◌, ◌≤◌, ℕ, ℤ, List, map, Vec, Result, Ok, Err, ⊤}
use Rattle.std.specs.declared.alloc.Global.{Global}
use Rattle.web_texts.specs.declared.memory.Fail.{Fail}
use Rattle.web_texts.specs.declared.memory.Fail.TheVariants.{NoMemory, Of}
use Rattle.sqlite.specs.Order.{Row}
use Rattle.sqlite.specs.State.{State, Executes, FailsToQuery, QueriesRow, Shown}
use Rattle.sqlite.specs.declared.error.Error.{Error}
use Rattle.board_store.specs.BoardRows.{item_in, next_after}
use Rattle.board_store.specs.Refusals.{failure}
use Rattle.board_store.specs.declared.board_error.BoardError.{BoardError}
use Rattle.board_store.specs.declared.board_error.BoardError.TheVariants as board
use Rattle.board_store.specs.declared.item.Item.{Item}
use Rattle.board_store.specs.declared.listing.Listing.{Listing}

-- a row that is there was not read: an allocation failed, or it holds another type
abbrev pub IsUnread : Fail BoardError → Type 0
IsUnread e = (e ≡ NoMemory) ⊎ (e ≡ Of board.Failed)

-- the item of the row, or what the error of SQL is to clients
abbrev pub ReadsItem : Result Row Error → Result Item (Fail BoardError) → Type 0
ReadsItem (Ok row) (Ok item) = item ≡ item_in row
ReadsItem (Ok row) (Err e) = IsUnread e
ReadsItem (Err error) (Ok item) = ⊥
ReadsItem (Err error) (Err e) = e ≡ failure error

abbrev pub ReadsItems
    : Result (Vec Row Global) Error → Result (List Item) (Fail BoardError) → Type 0
ReadsItems (Ok rows) (Ok items) = items ≡ map item_in rows.items
ReadsItems (Ok rows) (Err e) = IsUnread e
ReadsItems (Err error) (Ok items) = ⊥
ReadsItems (Err error) (Err e) = e ≡ failure error

abbrev pub Removes : Result ℕ Error → Result ⊤ (Fail BoardError) → Type 0
Removes (Ok count) (Ok _) = count ≢ 0
Removes (Ok count) (Err e) = (count ≡ 0) × (e ≡ Of board.NotFound)
Removes (Err error) (Ok _) = ⊥
Removes (Err error) (Err e) = e ≡ failure error

-- what an insert, an update or a query of one item does and returns
abbrev pub ShowsItem
    : List ℕ → Row → State → State → Result Item (Fail BoardError) → Type 0
ShowsItem text values old new result =
    (found : Result Row Error) × QueriesRow text values old new found × ReadsItem found result

-- the items of a query, or why there are none
abbrev pub Queries : List ℕ → Row → State → State → Result (Vec Row Global) Error → Type 0
Queries text values old new (Ok rows) = Shown text values old new rows.items
Queries text values old new (Err error) = FailsToQuery text values old new error

abbrev pub ShowsItems
    : List ℕ → Row → State → State → Result (List Item) (Fail BoardError) → Type 0
ShowsItems text values old new result =
    (found : Result (Vec Row Global) Error) × Queries text values old new found
    × ReadsItems found result

abbrev pub RemovesItem
    : List ℕ → Row → State → State → Result ⊤ (Fail BoardError) → Type 0
RemovesItem text values old new result =
    (done : Result ℕ Error) × Executes text values old new done × Removes done result

abbrev pub ShowsListing
    : List ℕ → Row → State → State → Result Listing (Fail BoardError) → Type 0
ShowsListing text values old new (Ok page) =
    ShowsItems text values old new (Ok page.items) × (page.next ≡ next_after page.items)
ShowsListing text values old new (Err e) = ShowsItems text values old new (Err e)
