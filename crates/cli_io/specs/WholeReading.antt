-- The result of reading a whole text.
use Rattle.std.specs.Prelude.{◌≡◌, ◌<◌, ◌≤◌, ◌+◌, ℕ, true, List, [], length}
use Rattle.std.specs.Prelude.{Result, Ok, Err}
use Rattle.std.specs.Io.KnownBytes.{IsAtEnd}
use Rattle.web_texts.specs.Counts.{Rose}
use Rattle.web_texts.specs.declared.memory.NoMemory.{NoMemory}
use Rattle.cli_io.specs.IoState.{InputState, raised_count, RoseBeyond, ReadsBytes}
use Rattle.cli_io.specs.declared.reading.ReadWhole.{ReadWhole}
use Rattle.cli_io.specs.declared.reading.ReadWhole.TheVariants as whole

-- the greatest length of a script, in bytes
abbrev pub limit : ℕ
limit = 16777216

-- these bytes were read, at most the limit, and then the input ended
pub record IsAll (came : List ℕ) (old new : InputState) : Type 0 where
  pub bytes : ReadsBytes came old new
  pub given : new.given ≡ raised_count old.given (length came)
  pub fits : length came ≤ limit
  pub within : new.given ≤ old.given + limit
  pub faults : new.faults ≡ old.faults
  pub ended : new.ended ≡ true
  pub nothing : IsAtEnd new.left

-- these bytes were read, more than the limit
pub record IsTooLong (came : List ℕ) (old new : InputState) : Type 0 where
  pub bytes : ReadsBytes came old new
  pub given : new.given ≡ raised_count old.given (length came)
  pub more : limit < length came
  pub beyond : RoseBeyond limit old.given new.given
  pub faults : new.faults ≡ old.faults

-- these bytes were read, at most the limit, and then a read failed
pub record IsFault (came : List ℕ) (old new : InputState) : Type 0 where
  pub bytes : ReadsBytes came old new
  pub given : new.given ≡ raised_count old.given (length came)
  pub fits : length came ≤ limit
  pub within : new.given ≤ old.given + limit
  pub rose : Rose old.faults new.faults

abbrev pub ReadsWhole : Result ReadWhole NoMemory → InputState → InputState → Type 0
ReadsWhole (Ok (whole.All bytes)) old new = IsAll bytes.items old new
ReadsWhole (Ok whole.TooLong) old new = (came : List ℕ) × IsTooLong came old new
ReadsWhole (Ok whole.Failed) old new = (came : List ℕ) × IsFault came old new
ReadsWhole (Err wanting) old new = new.faults ≡ old.faults
