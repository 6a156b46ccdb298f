use Rattle.web_extract.specs.ListMeanings.{Member}
use Rattle.web_cutting.proofs.CutFreeLemmas.{four_cut, member_cut, one_cut, three_cut, two_cut}
use Rattle.web_cutting.proofs.list_cutting.list_cutting_law.Goals as goal

pub returns-clause-one : goal.returns-clause-one
returns-clause-one g c = λ q free1. one_cut (Member g.A.Error.Into.converts (g.A.FromRequest.means q)) (member_cut _ (g.A.FromRequest.means q) free1)

pub returns-clause-two : goal.returns-clause-two
returns-clause-two g c = λ q free1 free2.
    two_cut (Member g.A.Error.Into.converts (g.A.FromRequest.means q)) (Member g.B.Error.Into.converts (g.B.FromRequest.means q))
    (member_cut _ (g.A.FromRequest.means q) free1) (member_cut _ (g.B.FromRequest.means q) free2)

pub returns-clause-three : goal.returns-clause-three
returns-clause-three g c = λ q free1 free2 free3.
    three_cut (Member g.A.Error.Into.converts (g.A.FromRequest.means q)) (Member g.B.Error.Into.converts (g.B.FromRequest.means q)) (Member g.C.Error.Into.converts (g.C.FromRequest.means q))
    (member_cut _ (g.A.FromRequest.means q) free1) (member_cut _ (g.B.FromRequest.means q) free2) (member_cut _ (g.C.FromRequest.means q) free3)

pub returns-clause-four : goal.returns-clause-four
returns-clause-four g c = λ q free1 free2 free3 free4.
    four_cut (Member g.A.Error.Into.converts (g.A.FromRequest.means q)) (Member g.B.Error.Into.converts (g.B.FromRequest.means q)) (Member g.C.Error.Into.converts (g.C.FromRequest.means q)) (Member g.D.Error.Into.converts (g.D.FromRequest.means q))
    (member_cut _ (g.A.FromRequest.means q) free1) (member_cut _ (g.B.FromRequest.means q) free2) (member_cut _ (g.C.FromRequest.means q) free3) (member_cut _ (g.D.FromRequest.means q) free4)
