use Rattle.std.proofs.Common.{◌≡◌, deque_len}
use Rattle.web_body.specs.MemoryBodies.{without_empty}
use Rattle.web_body.proofs.marks.pop_nonempty.Given as goal

abbrev pub invariant-loop-mark : goal.invariant-loop-mark
invariant-loop-mark l = without_empty l.left.items ≡ without_empty l.fn.left.items

abbrev pub decreases-loop-mark : goal.decreases-loop-mark
decreases-loop-mark l = deque_len l.left
