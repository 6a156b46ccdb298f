use Rattle.web_cutting.proofs.TakingLemmas.{after_refusal, where_taken}
use Rattle.web_cutting.proofs.first_takers.value_taking_law.Goals as goal

pub returns-clause-json : goal.returns-clause-json
returns-clause-json g c = λ q m left n x h. where_taken _ m left h.1.2

pub returns-clause-form : goal.returns-clause-form
returns-clause-form g c = λ q m left n x h. where_taken _ m left h.1.0

pub returns-clause-capped_bytes : goal.returns-clause-capped_bytes
returns-clause-capped_bytes g c = λ cap q m left n x h. after_refusal _ m left h.0

pub returns-clause-capped_string : goal.returns-clause-capped_string
returns-clause-capped_string g c = λ cap q m left n x h. after_refusal _ m left h.1.0

pub returns-clause-capped_json : goal.returns-clause-capped_json
returns-clause-capped_json g c = λ cap q m left n x h. where_taken _ m left h.1.2

pub returns-clause-capped_form : goal.returns-clause-capped_form
returns-clause-capped_form g c = λ cap q m left n x h. where_taken _ m left h.1.0
