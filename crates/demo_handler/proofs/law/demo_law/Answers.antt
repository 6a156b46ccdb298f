use Rattle.demo_picked.proofs.PickedFunctionsLemmas.{picked_meets}
use Rattle.demo_handler.proofs.DemoFunctionsLemmas.{demo_meets}
use Rattle.demo_handler.proofs.law.demo_law.Goals as goal

pub returns-clause-arguments : goal.returns-clause-arguments
returns-clause-arguments c = picked_meets

pub returns-clause-handler : goal.returns-clause-handler
returns-clause-handler c = λ h. demo_meets
