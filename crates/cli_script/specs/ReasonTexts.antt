-- The text of each reason.
use Rattle.std.specs.Prelude.{ℕ, List, codes}
use Rattle.cli_script.specs.declared.reason.LineFault.{LineFault}
use Rattle.cli_script.specs.declared.reason.LineFault.TheVariants as reason

abbrev pub reason_text : LineFault → List ℕ
reason_text reason.UnknownLine = codes "unknown line"
reason_text reason.LineAfterPlan = codes "line after plan"
reason_text reason.NoExchange = codes "no exchange"
reason_text reason.MarkAfterFault = codes "mark after fault"
reason_text reason.TooManyHeaders = codes "too many headers"
reason_text reason.BadExchange = codes "bad exchange"
reason_text reason.BadHeader = codes "bad header"
reason_text reason.BadParam = codes "bad param"
reason_text reason.BadLayer = codes "bad layer"
reason_text reason.BadPiece = codes "bad piece"
reason_text reason.BadPeer = codes "bad peer"
reason_text reason.BadNumber = codes "bad number"
reason_text reason.BadMark = codes "bad mark"
reason_text reason.BadPlan = codes "bad plan"
