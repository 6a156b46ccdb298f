use Rattle.web_cutting.proofs.CutWithinLemmas.{four_within, member_within, one_within, three_within, two_within}
use Rattle.web_cutting.proofs.TakingLemmas.{member_leaves}
use Rattle.web_cutting.proofs.within_cutting.list_within_law.Goals as goal

pub returns-clause-one : goal.returns-clause-one
returns-clause-one g c = λ limit q free1. one_within limit _ (member_within limit _ (g.A.FromRequest.means q) free1)

pub returns-clause-two : goal.returns-clause-two
returns-clause-two g c = λ limit q leaves1 free1 free2.
    two_within limit _ _ (member_leaves _ (g.A.FromRequest.means q) leaves1)
    (member_within limit _ (g.A.FromRequest.means q) free1) (member_within limit _ (g.B.FromRequest.means q) free2)

pub returns-clause-three : goal.returns-clause-three
returns-clause-three g c = λ limit q leaves1 leaves2 free1 free2 free3.
    three_within limit _ _ _ (member_leaves _ (g.A.FromRequest.means q) leaves1) (member_leaves _ (g.B.FromRequest.means q) leaves2)
    (member_within limit _ (g.A.FromRequest.means q) free1) (member_within limit _ (g.B.FromRequest.means q) free2) (member_within limit _ (g.C.FromRequest.means q) free3)

pub returns-clause-four : goal.returns-clause-four
returns-clause-four g c = λ limit q leaves1 leaves2 leaves3 free1 free2 free3 free4.
    four_within limit _ _ _ _ (member_leaves _ (g.A.FromRequest.means q) leaves1) (member_leaves _ (g.B.FromRequest.means q) leaves2) (member_leaves _ (g.C.FromRequest.means q) leaves3)
    (member_within limit _ (g.A.FromRequest.means q) free1) (member_within limit _ (g.B.FromRequest.means q) free2) (member_within limit _ (g.C.FromRequest.means q) free3) (member_within limit _ (g.D.FromRequest.means q) free4)
