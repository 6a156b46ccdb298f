use Rattle.std.proofs.Common.{refl}
use Rattle.web_texts.proofs.CutLemmas.{cut_is, cut_is_none}
use Rattle.web_multipart_parts.proofs.part_head.read_field.Goals as goal

pub returns-in-Some : goal.returns-in-Some
returns-in-Some c = rw (cut_is 58 c.args.line.now c.in-Some.name.now c.in-Some.value.now c.in-Some.ensures) c.read_parts.ensures

pub returns-in-None : goal.returns-in-None
returns-in-None c = rw (cut_is_none 58 c.args.line.now c.in-None.ensures) refl
