use Rattle.web_cutting.proofs.TakingLemmas.{after_refusal}
use Rattle.web_cutting.proofs.first_takers.either_taking_law.Goals as goal

pub returns : goal.returns
returns g c = λ q m left n x h. after_refusal _ m left h.3.0
