use Rattle.std.proofs.Common.{length}
use Rattle.web_multipart_parts.specs.PieceParts.{SameDue}
use Rattle.web_multipart_parts.proofs.piece_parts.drain.Given as goal

abbrev pub invariant-parts : goal.invariant-parts
invariant-parts l = SameDue l.fn.reader l.fn.parts.items l.reader l.parts.items

abbrev pub decreases-parts : goal.decreases-parts
decreases-parts l = length l.reader.came
