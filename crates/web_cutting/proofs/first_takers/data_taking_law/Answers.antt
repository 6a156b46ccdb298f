use Rattle.std.proofs.Common.{inl}
use Rattle.web_cutting.proofs.first_takers.data_taking_law.Goals as goal

pub returns-clause-application : goal.returns-clause-application
returns-clause-application g c = λ q m left n x h. inl h.0

pub returns-clause-request : goal.returns-clause-request
returns-clause-request g c = λ q m left n x h. inl h.0
