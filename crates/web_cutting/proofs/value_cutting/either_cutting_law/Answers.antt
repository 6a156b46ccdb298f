use Rattle.web_extract.specs.LayerConfigurations.{payload_settings}
use Rattle.web_cutting.proofs.CutFreeLemmas.{bytes_cut}
use Rattle.web_cutting.proofs.CutValuesLemmas.{either_cut}
use Rattle.web_cutting.proofs.value_cutting.either_cutting_law.Goals as goal

pub returns : goal.returns
returns g c = λ q.
    either_cut _ (g.L.FromRequest.means q) (g.R.FromRequest.means q)
    (bytes_cut (payload_settings g.P.Layer.Configs.configurations q.layers) q.head.headers)
