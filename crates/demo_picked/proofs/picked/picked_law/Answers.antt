use Rattle.demo_picked.proofs.PickedArgumentsLemmas.{picked_only}
use Rattle.demo_picked.proofs.picked.picked_law.Goals as goal

pub returns : goal.returns
returns c = λ q m rest n x. picked_only q m rest n x
