use Rattle.web_extract.proofs.NestedListsLemmas.{as_inner, as_left, as_outer, as_pairs, as_right}
use Rattle.web_extract.proofs.SeenResultsLemmas.{sees_inner, sees_left, sees_outer, sees_pairs, sees_right}
use Rattle.web_extract.proofs.lists.laws.nesting_law.Goals as goal

pub returns-clause-pairs : goal.returns-clause-pairs
returns-clause-pairs g c = λ q. sees_pairs _ _ _ _ _ _ _ _

pub returns-clause-right : goal.returns-clause-right
returns-clause-right g c = λ q. sees_right _ _ _ _ _ _ _ _

pub returns-clause-left : goal.returns-clause-left
returns-clause-left g c = λ q. sees_left _ _ _ _ _ _ _ _

pub returns-clause-inner : goal.returns-clause-inner
returns-clause-inner g c = λ q. sees_inner _ _ _ _ _ _ _ _

pub returns-clause-outer : goal.returns-clause-outer
returns-clause-outer g c = λ q. sees_outer _ _ _ _ _ _ _ _

pub returns-clause-exactly_pairs : goal.returns-clause-exactly_pairs
returns-clause-exactly_pairs g c = λ q. as_pairs _ _ _ _

pub returns-clause-exactly_right : goal.returns-clause-exactly_right
returns-clause-exactly_right g c = λ q. as_right _ _ _ _

pub returns-clause-exactly_left : goal.returns-clause-exactly_left
returns-clause-exactly_left g c = λ q. as_left _ _ _ _

pub returns-clause-exactly_inner : goal.returns-clause-exactly_inner
returns-clause-exactly_inner g c = λ q. as_inner _ _ _ _

pub returns-clause-exactly_outer : goal.returns-clause-exactly_outer
returns-clause-exactly_outer g c = λ q. as_outer _ _ _ _
