use Rattle.web_extract.proofs.HandedMarksLemmas.{decides1, decides2, decides3, decides4}
use Rattle.web_extract.proofs.SeenResultsLemmas.{sees1, sees2, sees3, sees4, sees_exactly}
use Rattle.web_extract.proofs.lists.laws.list_law.Goals as goal

pub returns-clause-exactly : goal.returns-clause-exactly
returns-clause-exactly g c = λ q. sees_exactly _ _

pub returns-clause-one : goal.returns-clause-one
returns-clause-one g c = λ q. sees1 _ _

pub returns-clause-two : goal.returns-clause-two
returns-clause-two g c = λ q. sees2 _ _ _ _

pub returns-clause-three : goal.returns-clause-three
returns-clause-three g c = λ q. sees3 _ _ _ _ _ _

pub returns-clause-four : goal.returns-clause-four
returns-clause-four g c = λ q. sees4 _ _ _ _ _ _ _ _

pub returns-clause-exactly_one : goal.returns-clause-exactly_one
returns-clause-exactly_one g c = λ q. decides1 _

pub returns-clause-exactly_two : goal.returns-clause-exactly_two
returns-clause-exactly_two g c = λ q. decides2 _ _

pub returns-clause-exactly_three : goal.returns-clause-exactly_three
returns-clause-exactly_three g c = λ q. decides3 _ _ _

pub returns-clause-exactly_four : goal.returns-clause-exactly_four
returns-clause-exactly_four g c = λ q. decides4 _ _ _ _
