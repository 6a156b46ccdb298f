use Rattle.web_cutting.proofs.TakingLemmas.{four_leave, member_leaves, one_leaves, three_leave, two_leave}
use Rattle.web_cutting.proofs.first_takers.list_taking_law.Goals as goal

pub returns-clause-one : goal.returns-clause-one
returns-clause-one g c = λ q a. one_leaves _ (member_leaves _ _ a)

pub returns-clause-two : goal.returns-clause-two
returns-clause-two g c = λ q a b. two_leave _ _ (member_leaves _ _ a) (member_leaves _ _ b)

pub returns-clause-three : goal.returns-clause-three
returns-clause-three g c = λ q a b d. three_leave _ _ _ (member_leaves _ _ a) (member_leaves _ _ b) (member_leaves _ _ d)

pub returns-clause-four : goal.returns-clause-four
returns-clause-four g c =
    λ q a b d e. four_leave _ _ _ _ (member_leaves _ _ a) (member_leaves _ _ b) (member_leaves _ _ d) (member_leaves _ _ e)
