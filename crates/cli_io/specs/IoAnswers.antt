-- The results of reads and writes.
use Rattle.std.specs.Prelude.{◌≡◌, ◌<◌, ◌≤◌, ℕ, true, false, List, length, take}
use Rattle.std.specs.Io.KnownBytes.{Keeps, IsAtEnd}
use Rattle.web_texts.specs.Counts.{Rose}
use Rattle.cli_io.specs.IoState.{InputState, OutputState, raised_count, ReadsBytes, WritesBytes}
use Rattle.cli_io.specs.declared.input.ReadAnswer.{ReadAnswer}
use Rattle.cli_io.specs.declared.input.ReadAnswer.TheVariants as read
use Rattle.cli_io.specs.declared.output.WriteAnswer.{WriteAnswer}
use Rattle.cli_io.specs.declared.output.WriteAnswer.TheVariants as write

-- n bytes were read into the buffer
pub record Moves (n : ℕ) (buf : List ℕ) (old new : InputState) : Type 0 where
  pub some : 0 < n
  pub fits : n ≤ length buf
  pub faults : new.faults ≡ old.faults
  pub ended : new.ended ≡ false
  pub came : ReadsBytes (take n buf) old new
  pub given : new.given ≡ raised_count old.given n

-- the input has ended: no byte is left, as far as is known
pub record Ends (old new : InputState) : Type 0 where
  pub faults : new.faults ≡ old.faults
  pub ended : new.ended ≡ true
  pub nothing : IsAtEnd new.left
  pub left : Keeps old.left new.left
  pub given : new.given ≡ old.given

-- reading failed, and nothing was read
pub record FailsToRead (old new : InputState) : Type 0 where
  pub rose : Rose old.faults new.faults
  pub ended : new.ended ≡ false
  pub left : Keeps old.left new.left
  pub given : new.given ≡ old.given

abbrev pub Reads : ReadAnswer → List ℕ → InputState → InputState → Type 0
Reads (read.Bytes n) buf old new = Moves n buf old new
Reads read.End buf old new = Ends old new
Reads read.Failed buf old new = FailsToRead old new

-- the first n bytes were written
pub record Takes (n : ℕ) (bytes : List ℕ) (old new : OutputState) : Type 0 where
  pub some : 0 < n
  pub fits : n ≤ length bytes
  pub faults : new.faults ≡ old.faults
  pub went : WritesBytes (take n bytes) old new

-- writing failed, and nothing was written
pub record FailsToWrite (old new : OutputState) : Type 0 where
  pub rose : Rose old.faults new.faults
  pub written : Keeps old.written new.written

abbrev pub Writes : WriteAnswer → List ℕ → OutputState → OutputState → Type 0
Writes (write.Wrote n) bytes old new = Takes n bytes old new
Writes write.Failed bytes old new = FailsToWrite old new

-- a fact on how many bytes were written, where some were
abbrev pub IfWrote : WriteAnswer → (ℕ → Type 0) → Type 0
IfWrote (write.Wrote n) holds = holds n
IfWrote write.Failed holds = Unit {0}
