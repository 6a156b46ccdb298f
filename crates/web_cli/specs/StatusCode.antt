-- The number of each status.
use Rattle.std.specs.Prelude.{ℕ}
use Rattle.web_cli.specs.declared.status.Status.{Status}
use Rattle.web_cli.specs.declared.status.Status.TheVariants as status

abbrev pub status_code : Status → ℕ
status_code status.Done = 0
status_code status.Script = 2
status_code status.ReadFault = 3
status_code status.WriteFault = 4
status_code status.NoMemory = 5
status_code status.Usage = 64
