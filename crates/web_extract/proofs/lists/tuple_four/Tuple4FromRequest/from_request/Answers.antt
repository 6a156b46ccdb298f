use Rattle.std.specs.Prelude.{Some}
use Rattle.web_extract.proofs.ExtractsLemmas.{extracts4}
use Rattle.web_extract.proofs.lists.tuple_four.Tuple4FromRequest.from_request.Goals as goal

pub returns-clause-extracts : goal.returns-clause-extracts
returns-clause-extracts g c =
    extracts4 g.A.Error.Into.converts g.B.Error.Into.converts g.C.Error.Into.converts g.D.Error.Into.converts
    _ _ _ _ _ _ _ _ _ _ _ c.in_ok-first.ensures.extracts c.in_ok-third.ensures.extracts

pub returns-clause-unread : goal.returns-clause-unread
returns-clause-unread g c = λ leaves m.
    let front = c.in_ok-first.ensures.unread (leaves.0, leaves.1) in
    let back = c.in_ok-third.ensures.unread (leaves.2, leaves.3) in
    extracts4 g.A.Error.Into.converts g.B.Error.Into.converts g.C.Error.Into.converts g.D.Error.Into.converts
    (g.A.FromRequest.means c.args.req.now.request) (g.B.FromRequest.means c.args.req.now.request)
    (g.C.FromRequest.means c.args.req.now.request) (g.D.FromRequest.means c.args.req.now.request)
    (g.A.Future.Poll.gives c.in_ok-first.first) (g.B.Future.Poll.gives c.in_ok-first.second)
    (g.C.Future.Poll.gives c.in_ok-third.third) (g.D.Future.Poll.gives c.in_ok-third.fourth)
    (Some m) (Some m) (Some m) (Some m, front.0 m, front.1 m) (Some m, back.0 m, back.1 m)
