use Rattle.std.proofs.Common.{◌≡◌, ℕ, List, Some, take}
use Rattle.std.specs.Fmt.{HasWritten, IsPlainFormatter}
use Rattle.web_headers.specs.PrintedLists.{later_items}
use Rattle.web_headers.proofs.printed_list.fmt_later.Given as goal

abbrev pub invariant-loop-part : goal.invariant-loop-part
invariant-loop-part g l = (text : g.row.T.Denot → List ℕ) → ((x : g.row.T.Denot) → g.T.Display.output x ≡ Some (text x)) → IsPlainFormatter l.initial.f
    → HasWritten g.W.Write.write_str_gives l.initial.f (later_items text (take l.part-index l.parts)) l.f
