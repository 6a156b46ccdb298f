use Rattle.web_cutting.proofs.CutPartsLemmas.{parts_cut}
use Rattle.web_cutting.proofs.multipart_cutting.multipart_cutting_law.Goals as goal

pub returns : goal.returns
returns g c = λ q. parts_cut _ q.head.headers
