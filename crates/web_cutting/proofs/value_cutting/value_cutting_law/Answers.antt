use Rattle.web_extract.specs.LayerConfigurations.{form_settings, json_settings}
use Rattle.web_extract_body.specs.FormArgument.{capped_form}
use Rattle.web_extract_body.specs.JsonArgument.{capped_json}
use Rattle.web_cutting.proofs.CutValuesLemmas.{form_cut, json_cut}
use Rattle.web_cutting.proofs.value_cutting.value_cutting_law.Goals as goal

pub returns-clause-json : goal.returns-clause-json
returns-clause-json g c = λ q. json_cut (json_settings g.P.Layer.Configs.configurations q.layers) g.P.Layer.OnJson.Refuse.refuses g.P.Layer.JsonType.AllowType.allows_type g.T.ReadJson.reads q.head

pub returns-clause-capped_json : goal.returns-clause-capped_json
returns-clause-capped_json g c = λ cap q. json_cut (capped_json cap (json_settings g.P.Layer.Configs.configurations q.layers)) g.P.Layer.OnJson.Refuse.refuses g.P.Layer.JsonType.AllowType.allows_type g.T.ReadJson.reads q.head

pub returns-clause-form : goal.returns-clause-form
returns-clause-form g c = λ q. form_cut (form_settings g.P.Layer.Configs.configurations q.layers) g.P.Layer.OnForm.Refuse.refuses g.F.ReadPairs.reads_pairs q.head

pub returns-clause-capped_form : goal.returns-clause-capped_form
returns-clause-capped_form g c = λ cap q. form_cut (capped_form cap (form_settings g.P.Layer.Configs.configurations q.layers)) g.P.Layer.OnForm.Refuse.refuses g.F.ReadPairs.reads_pairs q.head
