-- What a board does and answers over a database that may have to be opened first.
use Rattle.std.specs.Prelude.{◌≡◌, ◌⊎◌, Option, None, Some, Result, IsErr, ⊤}
use Rattle.web_texts.specs.declared.memory.Fail.{Fail}
use Rattle.sqlite_trees.specs.declared.store.Store.{Ghosts}
use Rattle.board_store.specs.BoardAnswers.{Answers, SurvivesAsk}
use Rattle.board_store.specs.declared.ask.Ask.{Ask}
use Rattle.board_store.specs.declared.ask.Told.{Told}
use Rattle.board_store.specs.declared.board.Board.{Board}
use Rattle.board_store.specs.declared.board_error.BoardError.{BoardError}

-- the board that is open, or any, opened now
abbrev pub IsOpenOne : {B : Type 0} → Option B → B → Type 0
IsOpenOne (Some board) x = x ≡ board
IsOpenOne None x = ⊤

-- the board stays open, or is closed
abbrev pub StaysOrCloses : {B : Type 0} → B → Option B → Type 0
StaysOrCloses board new = (new ≡ Some board) ⊎ (new ≡ None)

module _ {S : Type 0} (g : Ghosts S) where
  -- one step of an open board
  abbrev pub OpenAnswers : Board S → Ask → Result Told (Fail BoardError) → Board S → Type 0
  OpenAnswers old ask x new = Answers g old new ask x × SurvivesAsk g old new ask

-- one step of a board that is open or is opened now; or it could not be opened
abbrev pub FileAnswers : {B : Type 0} → (B → Ask → Result Told (Fail BoardError) → B → Type 0)
    → Option B → Ask → Result Told (Fail BoardError) → Option B → Type 0
FileAnswers {B} answers old ask x new =
    ((first : B) × (last : B) × IsOpenOne old first × answers first ask x last
    × StaysOrCloses last new)
    ⊎ ((old ≡ None) × (new ≡ None) × IsErr x)
