use Rattle.std.proofs.Common.{◌+◌}
use Rattle.std.proofs.lemmas.List.{take_rest}
use Rattle.web_multipart_parts.proofs.HeadLemmas.{line_at, no_line}
use Rattle.web_multipart_parts.proofs.part_head.cut_line.Goals as goal

pub returns-in-Some : goal.returns-in-Some
returns-in-Some c = rw (take_rest c.args.text.now (c.in-Some.end + 2)) (line_at c.args.text.now c.in-Some.end c.in-Some.ensures.place)

pub returns-in-None : goal.returns-in-None
returns-in-None c = no_line c.args.text.now c.in-None.ensures.place
