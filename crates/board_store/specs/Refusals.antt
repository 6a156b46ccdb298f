-- What errors of SQL are to the board's clients.
use Rattle.web_texts.specs.declared.memory.Fail.{Fail}
use Rattle.web_texts.specs.declared.memory.Fail.TheVariants.{NoMemory, Of}
use Rattle.sqlite.specs.declared.Constraint.{Constraint}
use Rattle.sqlite.specs.declared.Constraint.TheVariants.{NotNull, PrimaryKey, Unique}
use Rattle.sqlite.specs.declared.error.Error.{Error}
use Rattle.sqlite.specs.declared.error.Error.TheVariants.{SqliteFailure, QueryReturnedNoRows}
use Rattle.sqlite.specs.declared.error.ErrorCode.{ErrorCode}
use Rattle.sqlite.specs.declared.error.ErrorCode.TheVariants as code
use Rattle.board_store.specs.declared.board_error.BoardError.{BoardError}
use Rattle.board_store.specs.declared.board_error.BoardError.TheVariants as board

abbrev pub constraint : Constraint → BoardError
constraint Unique = board.TitleTaken
constraint PrimaryKey = board.TitleTaken
constraint NotNull = board.TitleMissing
constraint _ = board.OutOfBounds

abbrev pub by_code : ErrorCode → Fail BoardError
by_code code.OutOfMemory = NoMemory
by_code (code.ConstraintViolation broken) = Of (constraint broken)
by_code code.DatabaseBusy = Of board.Busy
by_code code.DiskFull = Of board.DiskFull
by_code code.CannotOpen = Of board.CannotOpen
by_code code.NotADatabase = Of board.NotABoard
by_code code.DatabaseCorrupt = Of board.NotABoard
by_code _ = Of board.Failed

abbrev pub failure : Error → Fail BoardError
failure (SqliteFailure code) = by_code code
failure QueryReturnedNoRows = Of board.NotFound
failure _ = Of board.Failed
