use Rattle.web_extract_body.proofs.TypeFunctionsLemmas.{decides_form}
use Rattle.web_extract_body.proofs.type_laws.form_law.Goals as goal

pub returns : goal.returns
returns g c = decides_form g.P.Layer.Configs.configurations g.P.Layer.OnForm.Refuse.refuses g.T.ReadPairs.reads_pairs
