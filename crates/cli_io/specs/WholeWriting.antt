-- The result of writing a whole text.
use Rattle.std.specs.Prelude.{◌≡◌, ◌<◌, ℕ, Bool, true, false, List, length, take}
use Rattle.web_texts.specs.Counts.{Rose}
use Rattle.cli_io.specs.IoState.{OutputState, WritesBytes}

-- the whole text was written
pub record IsWritten (text : List ℕ) (old new : OutputState) : Type 0 where
  pub faults : new.faults ≡ old.faults
  pub went : WritesBytes text old new

-- a prefix of the text was written, and then a write failed
pub record IsCutOff (sent : ℕ) (text : List ℕ) (old new : OutputState) : Type 0 where
  pub within : sent < length text
  pub rose : Rose old.faults new.faults
  pub went : WritesBytes (take sent text) old new

abbrev pub WritesWhole : Bool → List ℕ → OutputState → OutputState → Type 0
WritesWhole true text old new = IsWritten text old new
WritesWhole false text old new = (sent : ℕ) × IsCutOff sent text old new
