use Rattle.web_cutting.proofs.CutFreeLemmas.{now_cut}
use Rattle.web_cutting.proofs.head_cutting.data_cutting_law.Goals as goal

pub returns-clause-application : goal.returns-clause-application
returns-clause-application g c = λ q. now_cut _

pub returns-clause-request : goal.returns-clause-request
returns-clause-request g c = λ q. now_cut _
