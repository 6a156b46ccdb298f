use Rattle.std.proofs.Common.{◌≡◌, ◌++◌, length}
use Rattle.web_body.proofs.rope.Rope.join.Given as goal

abbrev pub invariant-loop-piece : goal.invariant-loop-piece
invariant-loop-piece l = l.joined.items ++ (l.pieces ++ l.small.items) ≡ l.fn.self

abbrev pub decreases-loop-piece : goal.decreases-loop-piece
decreases-loop-piece l = length l.pieces
