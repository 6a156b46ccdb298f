-- What a board does and answers for what it is asked.
use Rattle.std.specs.Prelude.{◌≡◌, ◌<◌, ◌≤◌, ℤ, Result, Ok, Err, ⊤}
use Rattle.web_texts.specs.declared.memory.Fail.{Fail}
use Rattle.web_texts.specs.declared.memory.Fail.TheVariants.{Of}
use Rattle.sqlite_trees.specs.declared.store.Store.{Ghosts}
use Rattle.sqlite.specs.Held.{state}
use Rattle.sqlite.specs.State.{CommitsBy, CommitsShowing, HasCleanDisk, Survives}
use Rattle.board_store.specs.BoardSteps.{RemovesItem, ShowsItem, ShowsListing}
use Rattle.board_store.specs.Statements.{delete_text, find_text, id_value, insert_text}
use Rattle.board_store.specs.Statements.{insert_values, list_text, most_items, update_text}
use Rattle.board_store.specs.Statements.{update_values}
use Rattle.board_store.specs.declared.ask.Ask.{Ask}
use Rattle.board_store.specs.declared.ask.Ask.TheVariants.{List, Get, Add, Update, Delete}
use Rattle.board_store.specs.declared.ask.Told.{Told}
use Rattle.board_store.specs.declared.ask.Told.TheVariants as told
use Rattle.board_store.specs.declared.board.Board.{Board}
use Rattle.board_store.specs.declared.board_error.BoardError.{BoardError}
use Rattle.board_store.specs.declared.board_error.BoardError.TheVariants as board
use Rattle.board_store.specs.declared.draft.Draft.{Draft}
use Rattle.board_store.specs.declared.item.Item.{Item}
use Rattle.board_store.specs.declared.listing.Listing.{Listing}

-- a listing was asked for, and this was told of it
abbrev pub TellsListing
    : (Result Listing (Fail BoardError) → Type 0) → Result Told (Fail BoardError) → Type 0
TellsListing shows (Ok (told.Listing page)) = shows (Ok page)
TellsListing shows (Ok (told.Item item)) = ⊥
TellsListing shows (Ok told.Deleted) = ⊥
TellsListing shows (Err e) = shows (Err e)

abbrev pub TellsItem
    : (Result Item (Fail BoardError) → Type 0) → Result Told (Fail BoardError) → Type 0
TellsItem shows (Ok (told.Listing page)) = ⊥
TellsItem shows (Ok (told.Item item)) = shows (Ok item)
TellsItem shows (Ok told.Deleted) = ⊥
TellsItem shows (Err e) = shows (Err e)

abbrev pub TellsDeleted
    : (Result ⊤ (Fail BoardError) → Type 0) → Result Told (Fail BoardError) → Type 0
TellsDeleted removes (Ok (told.Listing page)) = ⊥
TellsDeleted removes (Ok (told.Item item)) = ⊥
TellsDeleted removes (Ok told.Deleted) = removes (Ok tt)
TellsDeleted removes (Err e) = removes (Err e)

module _ {S : Type 0} (g : Ghosts S) (old new : Board S) where
  -- a full board adds nothing; otherwise the item is what the statement shows
  abbrev pub Adds : Draft → Result Item (Fail BoardError) → Type 0
  Adds draft x =
      (most_items ≤ old.count → (x ≡ Err (Of board.BoardFull)) × (new ≡ old))
      × (old.count < most_items → HasCleanDisk (state g new.conn) → ShowsItem insert_text
      (insert_values draft) (state g old.conn) (state g new.conn) x)

  -- each ask is one statement; nothing is said where the disk did not return what was written
  abbrev pub Answers : Ask → Result Told (Fail BoardError) → Type 0
  Answers (List after) answer = TellsListing (λ x. HasCleanDisk (state g new.conn)
      → ShowsListing list_text (id_value after) (state g old.conn) (state g new.conn) x) answer
  Answers (Get id) answer = TellsItem (λ x. HasCleanDisk (state g new.conn)
      → ShowsItem find_text (id_value id) (state g old.conn) (state g new.conn) x) answer
  Answers (Add draft) answer = TellsItem (Adds draft) answer
  Answers (Update id draft) answer = TellsItem (λ x. HasCleanDisk (state g new.conn)
      → ShowsItem update_text (update_values id draft) (state g old.conn) (state g new.conn) x)
      answer
  Answers (Delete id) answer = TellsDeleted (λ x. HasCleanDisk (state g new.conn)
      → RemovesItem delete_text (id_value id) (state g old.conn) (state g new.conn) x) answer

  -- a crash leaves what one could leave before, or what the statement commits
  abbrev pub SurvivesAsk : Ask → Type 0
  SurvivesAsk (List after) = Survives (state g old.conn) (state g new.conn)
      (CommitsShowing list_text (id_value after) (state g old.conn))
  SurvivesAsk (Get id) = Survives (state g old.conn) (state g new.conn)
      (CommitsShowing find_text (id_value id) (state g old.conn))
  SurvivesAsk (Add draft) = old.count < most_items → Survives (state g old.conn)
      (state g new.conn) (CommitsShowing insert_text (insert_values draft) (state g old.conn))
  SurvivesAsk (Update id draft) = Survives (state g old.conn) (state g new.conn)
      (CommitsShowing update_text (update_values id draft) (state g old.conn))
  SurvivesAsk (Delete id) = Survives (state g old.conn) (state g new.conn)
      (CommitsBy delete_text (id_value id) (state g old.conn))
