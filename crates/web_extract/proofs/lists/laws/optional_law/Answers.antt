use Rattle.web_extract.proofs.OptionResultLemmas.{option_not_refused, result_not_refused}
use Rattle.web_extract.proofs.lists.laws.optional_law.Goals as goal

pub returns-clause-option : goal.returns-clause-option
returns-clause-option g c = λ q m rest n e h. option_not_refused h.0 e h.2

pub returns-clause-result : goal.returns-clause-result
returns-clause-result g c = λ q m rest n e h. result_not_refused _ h.0 e h.2

pub returns-clause-option_place : goal.returns-clause-option_place
returns-clause-option_place g c = λ q m rest n x h. option_not_refused h.1.0 h.0 h.1.2

pub returns-clause-result_place : goal.returns-clause-result_place
returns-clause-result_place g c = λ q m rest n x h. result_not_refused _ h.1.0 h.0 h.1.2
