use Rattle.web_cutting.proofs.CutPartsLemmas.{parts_leave}
use Rattle.web_cutting.proofs.multipart_cutting.multipart_taking_law.Goals as goal

pub returns : goal.returns
returns g c = λ q. parts_leave _ q.head.headers
