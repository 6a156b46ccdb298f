use Rattle.web_body.proofs.CuttingLemmas.{same_content}
use Rattle.web_body.proofs.cutting.reading_cutting_law.Goals as goal

pub returns : goal.returns
returns c = same_content
