use Rattle.web_entities.proofs.QuotedPlaceLemmas.{semicolons_cut}
use Rattle.web_entities.proofs.place_laws.media_semicolon_law.Goals as goal

pub returns : goal.returns
returns c = semicolons_cut
