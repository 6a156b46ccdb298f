use Rattle.web_extract.proofs.CappedLemmas.{extracts_wrapped}
use Rattle.web_extract.proofs.body.capped_argument.CappedFromRequest.from_request.Goals as goal

pub returns-in-Ok-clause-extracts : goal.returns-in-Ok-clause-extracts
returns-in-Ok-clause-extracts g c = extracts_wrapped _ _ (g.T.Future.Poll.gives c.in-Ok.fut) _ _ c.in-Ok.ensures.extracts
