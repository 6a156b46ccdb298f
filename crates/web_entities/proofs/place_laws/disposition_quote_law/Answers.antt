use Rattle.web_entities.proofs.QuoteCountLemmas.{quotes_end}
use Rattle.web_entities.proofs.place_laws.disposition_quote_law.Goals as goal

pub returns : goal.returns
returns c = quotes_end
