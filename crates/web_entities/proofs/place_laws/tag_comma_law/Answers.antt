use Rattle.web_entities.proofs.QuoteCountLemmas.{commas_cut}
use Rattle.web_entities.proofs.place_laws.tag_comma_law.Goals as goal

pub returns : goal.returns
returns c = commas_cut
