use Rattle.web_entities.proofs.EntityTagLemmas.{tag_reads_back}
use Rattle.web_entities.proofs.ContentRangeLemmas.{range_reads_back}
use Rattle.web_entities.proofs.laws.read_back_law.Goals as goal

pub returns : goal.returns
returns c = record { tags = tag_reads_back; ranges = range_reads_back }
