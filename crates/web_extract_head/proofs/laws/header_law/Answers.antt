use Rattle.web_extract_head.proofs.HeaderArgumentLemmas.{gives_only}
use Rattle.web_extract_head.proofs.laws.header_law.Goals as goal

pub returns : goal.returns
returns g c = λ q. gives_only _
