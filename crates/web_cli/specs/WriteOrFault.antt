-- Writing the text that goes with a status.
use Rattle.std.specs.Prelude.{◌≡◌, ◌⊎◌, ℕ, List}
use Rattle.cli_io.specs.IoState.{OutputState}
use Rattle.cli_io.specs.WholeWriting.{IsWritten, IsCutOff}
use Rattle.web_cli.specs.declared.status.Status.{Status}
use Rattle.web_cli.specs.declared.status.Status.TheVariants as status

-- the text was written, and the status is the one that goes with it; or a write failed
abbrev pub WritesOrFaults : List ℕ → Status → Status → OutputState → OutputState → Type 0
WritesOrFaults text wanted result old new =
    ((result ≡ wanted) × IsWritten text old new)
    ⊎ ((result ≡ status.WriteFault) × ((sent : ℕ) × IsCutOff sent text old new))
