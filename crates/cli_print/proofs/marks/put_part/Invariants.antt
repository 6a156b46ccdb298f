use Rattle.std.proofs.Common.{◌≡◌, ◌++◌, take, flat_map}
use Rattle.web_body.specs.MemoryBodies.{without_empty}
use Rattle.cli_print.specs.BodyLines.{mark_line}
use Rattle.cli_print.proofs.marks.put_part.Given as goal

abbrev pub invariant-loop-mark : goal.invariant-loop-mark
invariant-loop-mark l = l.out.items ≡ l.initial.out.items ++ flat_map mark_line (without_empty (take l.mark-index l.marks))
