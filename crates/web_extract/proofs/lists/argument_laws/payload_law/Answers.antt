use Rattle.web_extract.proofs.HeadArgumentsLemmas.{only_payload}
use Rattle.web_extract.proofs.lists.argument_laws.payload_law.Goals as goal

pub returns : goal.returns
returns g c q = only_payload g.S.Source.feed
