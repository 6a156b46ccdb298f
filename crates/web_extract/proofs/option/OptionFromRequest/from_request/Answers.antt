use Rattle.std.specs.Prelude.{Some}
use Rattle.web_extract.proofs.ExtractsLemmas.{extracts_option}
use Rattle.web_extract.proofs.option.OptionFromRequest.from_request.Goals as goal

pub returns-in-Ok-clause-extracts : goal.returns-in-Ok-clause-extracts
returns-in-Ok-clause-extracts g c = extracts_option _ _ _ _ c.in-Ok.ensures.extracts

pub returns-in-Ok-clause-unread : goal.returns-in-Ok-clause-unread
returns-in-Ok-clause-unread g c = λ leaves m.
    extracts_option (g.T.FromRequest.means c.args.req.now.request) (g.T.Future.Poll.gives c.in-Ok.fut)
    (Some m) (Some m) (c.in-Ok.ensures.unread leaves m)
