use Rattle.web_entities.proofs.ParameterPlaceLemmas.{parameters_cut}
use Rattle.web_entities.proofs.place_laws.disposition_semicolon_law.Goals as goal

pub returns : goal.returns
returns c = parameters_cut
