use Rattle.web_cutting.proofs.CutFreeLemmas.{capped_cut}
use Rattle.web_cutting.proofs.argument_cutting.capped_cutting_law.Goals as goal

pub returns : goal.returns
returns g c = λ q free. capped_cut _ _ free
