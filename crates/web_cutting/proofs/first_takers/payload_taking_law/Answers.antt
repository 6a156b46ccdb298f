use Rattle.std.proofs.Common.{inr}
use Rattle.web_cutting.proofs.first_takers.payload_taking_law.Goals as goal

pub returns : goal.returns
returns g c = λ q m left n x h. inr h.0
