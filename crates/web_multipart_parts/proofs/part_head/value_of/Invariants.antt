use Rattle.std.proofs.Common.{◌≡◌, length}
use Rattle.web_multipart_parts.specs.PartHeads.{field_value}
use Rattle.web_multipart_parts.proofs.part_head.value_of.Given as goal

abbrev pub invariant-loop-field : goal.invariant-loop-field
invariant-loop-field l = field_value l.name l.rest ≡ field_value l.name l.fields

abbrev pub decreases-loop-field : goal.decreases-loop-field
decreases-loop-field l = length l.rest
