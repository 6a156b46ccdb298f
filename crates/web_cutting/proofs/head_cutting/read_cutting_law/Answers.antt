use Rattle.web_cutting.proofs.CutFreeLemmas.{now_cut}
use Rattle.web_cutting.proofs.head_cutting.read_cutting_law.Goals as goal

pub returns-clause-path : goal.returns-clause-path
returns-clause-path g c = λ q. now_cut _

pub returns-clause-query : goal.returns-clause-query
returns-clause-query g c = λ q. now_cut _

pub returns-clause-header : goal.returns-clause-header
returns-clause-header g c = λ q. now_cut _
