use Rattle.std.specs.Prelude.{Some}
use Rattle.web_extract.proofs.ExtractsLemmas.{extracts2}
use Rattle.web_extract.proofs.lists.tuple_two.Tuple2FromRequest.from_request.Goals as goal

pub returns-clause-extracts : goal.returns-clause-extracts
returns-clause-extracts g c =
    extracts2 g.A.Error.Into.converts g.B.Error.Into.converts _ _ _ _ _ _ c.in_ok-first.ensures.extracts

pub returns-clause-unread : goal.returns-clause-unread
returns-clause-unread g c = λ leaves m.
    let each = c.in_ok-first.ensures.unread leaves in
    extracts2 g.A.Error.Into.converts g.B.Error.Into.converts
    (g.A.FromRequest.means c.args.req.now.request) (g.B.FromRequest.means c.args.req.now.request)
    (g.A.Future.Poll.gives c.in_ok-first.first) (g.B.Future.Poll.gives c.in_ok-first.second)
    (Some m) (Some m) (Some m, each.0 m, each.1 m)
