use Rattle.std.proofs.Common.{sym}
use Rattle.web_multipart_parts.proofs.HeadLemmas.{end_none, end_some}
use Rattle.web_multipart_parts.proofs.part_head.is_end.Goals as goal

pub returns-in-None : goal.returns-in-None
returns-in-None c = end_none c.args.text.now c.in-None.ensures

pub returns-in-Some : goal.returns-in-Some
returns-in-Some c = end_some c.args.text.now c.in-Some.line.now _ c.in-Some.ensures c.is_empty.result (sym c.is_empty.ensures)
