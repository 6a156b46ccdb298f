use Rattle.web_extract_head.proofs.ReadArgumentsLemmas.{only_read}
use Rattle.web_extract_head.proofs.laws.path_law.Goals as goal

pub returns : goal.returns
returns g c q = only_read _ _ _
