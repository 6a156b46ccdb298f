use Rattle.web_extract.proofs.FirstTakerLemmas.{after_refusal, first_takes2, first_takes3, first_takes4, member_leaves}
use Rattle.web_extract.proofs.lists.laws.first_taker_law.Goals as goal

pub returns-clause-bytes : goal.returns-clause-bytes
returns-clause-bytes g c = λ q m left n x h. after_refusal _ m left h.0

pub returns-clause-string : goal.returns-clause-string
returns-clause-string g c = λ q m left n x h. after_refusal _ m left h.1.0

pub returns-clause-option : goal.returns-clause-option
returns-clause-option g c = λ q leaves m left n x h. leaves m left n h.0 h.1

pub returns-clause-result : goal.returns-clause-result
returns-clause-result g c = λ q leaves m left n x h. leaves m left n h.0 h.1

pub returns-clause-two : goal.returns-clause-two
returns-clause-two g c = λ q a b. first_takes2 _ _ (member_leaves _ _ a) (member_leaves _ _ b)

pub returns-clause-three : goal.returns-clause-three
returns-clause-three g c = λ q a b d. first_takes3 _ _ _ (member_leaves _ _ a) (member_leaves _ _ b) (member_leaves _ _ d)

pub returns-clause-four : goal.returns-clause-four
returns-clause-four g c =
    λ q a b d e. first_takes4 _ _ _ _ (member_leaves _ _ a) (member_leaves _ _ b) (member_leaves _ _ d) (member_leaves _ _ e)
