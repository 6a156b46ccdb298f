use Rattle.std.proofs.Common.{inl}
use Rattle.web_cutting.proofs.first_takers.head_taking_law.Goals as goal

pub returns-clause-unit : goal.returns-clause-unit
returns-clause-unit g c = λ q m left n x h. inl h.0

pub returns-clause-request : goal.returns-clause-request
returns-clause-request g c = λ q m left n x h. inl h.0

pub returns-clause-uri : goal.returns-clause-uri
returns-clause-uri g c = λ q m left n x h. inl h.0

pub returns-clause-method : goal.returns-clause-method
returns-clause-method g c = λ q m left n x h. inl h.0

pub returns-clause-connection : goal.returns-clause-connection
returns-clause-connection g c = λ q m left n x h. inl h.0

pub returns-clause-peer : goal.returns-clause-peer
returns-clause-peer g c = λ q m left n x h. inl h.0
