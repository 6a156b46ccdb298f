use Rattle.std.proofs.Common.{◌≡◌, ◌-◌}
use Rattle.web_texts.specs.PieceItems.{with_front}
use Rattle.web_multipart_parts.specs.PartHeads.{fields_in}
use Rattle.web_multipart_parts.proofs.part_head.read_fields.Given as goal

abbrev pub invariant-loop : goal.invariant-loop
invariant-loop l = with_front l.fields.items (fields_in (16 - l.counter) l.rest) ≡ fields_in 16 l.text
