use Rattle.std.proofs.Common.{inl}
use Rattle.web_cutting.proofs.first_takers.read_taking_law.Goals as goal

pub returns-clause-path : goal.returns-clause-path
returns-clause-path g c = λ q m left n x h. inl h.0

pub returns-clause-query : goal.returns-clause-query
returns-clause-query g c = λ q m left n x h. inl h.0

pub returns-clause-header : goal.returns-clause-header
returns-clause-header g c = λ q m left n x h. inl h.0
