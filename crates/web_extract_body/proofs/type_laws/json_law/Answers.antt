use Rattle.web_extract_body.proofs.TypeFunctionsLemmas.{decides_json}
use Rattle.web_extract_body.proofs.type_laws.json_law.Goals as goal

pub returns : goal.returns
returns g c = decides_json g.P.Layer.Configs.configurations g.P.Layer.OnJson.Refuse.refuses g.P.Layer.JsonType.AllowType.allows_type g.T.ReadJson.reads
