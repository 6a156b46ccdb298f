use Rattle.std.proofs.Common.{◌-◌, ◌≤◌, length}
use Rattle.memchr.specs.Find.{Nowhere, OccursAt}
use Rattle.web_multipart_parts.proofs.places.place_among_few.Given as goal

abbrev pub invariant-loop-skipped : goal.invariant-loop-skipped
invariant-loop-skipped l = record {
  within : l.from ≤ length l.bytes;
  none : Nowhere (OccursAt l.bytes l.text) 0 l.from;
}

abbrev pub decreases-loop-skipped : goal.decreases-loop-skipped
decreases-loop-skipped l = length l.bytes - l.from
