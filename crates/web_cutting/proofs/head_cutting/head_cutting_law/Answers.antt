use Rattle.web_cutting.proofs.CutFreeLemmas.{now_cut}
use Rattle.web_cutting.proofs.head_cutting.head_cutting_law.Goals as goal

pub returns-clause-unit : goal.returns-clause-unit
returns-clause-unit g c = λ q. now_cut _

pub returns-clause-request : goal.returns-clause-request
returns-clause-request g c = λ q. now_cut _

pub returns-clause-uri : goal.returns-clause-uri
returns-clause-uri g c = λ q. now_cut _

pub returns-clause-method : goal.returns-clause-method
returns-clause-method g c = λ q. now_cut _

pub returns-clause-connection : goal.returns-clause-connection
returns-clause-connection g c = λ q. now_cut _

pub returns-clause-peer : goal.returns-clause-peer
returns-clause-peer g c = λ q. now_cut _
