use Rattle.web_extract.specs.BytesArgument.{MeansBytes}
use Rattle.web_extract.specs.LayerConfigurations.{payload_settings}
use Rattle.web_extract_body.proofs.EitherLawLemmas.{either_decides}
use Rattle.web_extract_body.proofs.type_laws.either_law.Goals as goal

pub returns : goal.returns
returns g c = λ q.
    either_decides
    (MeansBytes (payload_settings g.P.Layer.Configs.configurations q.layers) q.head.headers)
    g.L.Error.Into.converts (g.L.FromRequest.means q) g.R.Error.Into.converts
    (g.R.FromRequest.means q) g.met.L.FromRequest.converted
    g.met.R.FromRequest.converted
