use Rattle.web_extract.proofs.ConvertedFuturesLemmas.{extracts_converted}
use Rattle.web_extract.proofs.map_into.from_request_into.Goals as goal

pub returns-in-Ok-clause-extracts : goal.returns-in-Ok-clause-extracts
returns-in-Ok-clause-extracts g c =
    let extracts = c.in-Ok.ensures.extracts in
    rw c.new.ensures
    (extracts_converted g.T.Into.converts g.T.Error.Into-2.converts _ _ _ _ extracts)
