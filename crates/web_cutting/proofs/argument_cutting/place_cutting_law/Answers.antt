use Rattle.web_cutting.proofs.CutFreeLemmas.{member_cut}
use Rattle.web_cutting.proofs.argument_cutting.place_cutting_law.Goals as goal

pub returns : goal.returns
returns g c = λ q free. member_cut _ _ free
