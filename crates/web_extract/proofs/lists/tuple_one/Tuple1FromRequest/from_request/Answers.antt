use Rattle.std.specs.Prelude.{Some}
use Rattle.web_extract.proofs.ExtractsLemmas.{extracts1}
use Rattle.web_extract.proofs.lists.tuple_one.Tuple1FromRequest.from_request.Goals as goal

pub returns-clause-extracts : goal.returns-clause-extracts
returns-clause-extracts g c = extracts1 g.A.Error.Into.converts _ _ _ _ c.in_ok-from_request.ensures.extracts

pub returns-clause-unread : goal.returns-clause-unread
returns-clause-unread g c = λ leaves m.
    extracts1 g.A.Error.Into.converts (g.A.FromRequest.means c.args.req.now.request)
    (g.A.Future.Poll.gives c.in_ok-from_request.field-0) (Some m) (Some m)
    (c.in_ok-from_request.ensures.unread leaves m)
