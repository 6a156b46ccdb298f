use Rattle.web_entities.proofs.IfRangeLemmas.{if_range_says_one}
use Rattle.web_entities.proofs.laws.if_range_law.Goals as goal

pub returns : goal.returns
returns c = if_range_says_one
