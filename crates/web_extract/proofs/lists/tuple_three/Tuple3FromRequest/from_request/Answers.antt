use Rattle.std.specs.Prelude.{Some}
use Rattle.web_extract.proofs.ExtractsLemmas.{extracts3}
use Rattle.web_extract.proofs.lists.tuple_three.Tuple3FromRequest.from_request.Goals as goal

pub returns-clause-extracts : goal.returns-clause-extracts
returns-clause-extracts g c =
    extracts3 g.A.Error.Into.converts g.B.Error.Into.converts g.C.Error.Into.converts _ _ _ _ _ _ _ _ _
    c.in_ok-first.ensures.extracts c.in_ok-second.ensures.extracts

pub returns-clause-unread : goal.returns-clause-unread
returns-clause-unread g c = λ leaves m.
    let rest = c.in_ok-second.ensures.unread (leaves.1, leaves.2) in
    extracts3 g.A.Error.Into.converts g.B.Error.Into.converts g.C.Error.Into.converts
    (g.A.FromRequest.means c.args.req.now.request) (g.B.FromRequest.means c.args.req.now.request)
    (g.C.FromRequest.means c.args.req.now.request) (g.A.Future.Poll.gives c.in_ok-first.first)
    (g.B.Future.Poll.gives c.in_ok-second.second) (g.C.Future.Poll.gives c.in_ok-second.third)
    (Some m) (Some m) (Some m)
    (c.in_ok-first.ensures.unread leaves.0 m) (Some m, rest.0 m, rest.1 m)
