use Rattle.std.proofs.Common.{length, ap, arith}
use Rattle.web_body.proofs.EmptyPiecesLemmas.{joined_same}
use Rattle.web_body.proofs.marks.Marks.new.Goals as goal

pub invariant_of-result : goal.invariant_of-result
invariant_of-result c =
    let size = ap length (joined_same c.args.marks.items) in
    rw c.from.ensures.0 (c.requires.body, omega (arith, size, c.requires.small))
