use Rattle.web_cutting.proofs.first_takers.capped_taking_law.Goals as goal

pub returns : goal.returns
returns g c = λ q leaves m left n x h. leaves m left n h.0 h.1
