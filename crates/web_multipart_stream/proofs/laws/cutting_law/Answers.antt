use Rattle.web_multipart_stream.proofs.ScheduleLemmas.{same_parts}
use Rattle.web_multipart_stream.proofs.laws.cutting_law.Goals as goal

pub returns : goal.returns
returns c = same_parts
