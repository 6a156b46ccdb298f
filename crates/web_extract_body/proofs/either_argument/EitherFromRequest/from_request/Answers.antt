use Rattle.web_extract.specs.BodyFutures.{bytes_gives}
use Rattle.web_extract.specs.BytesArgument.{MeansBytes}
use Rattle.web_extract.specs.LayerConfigurations.{payload_settings}
use Rattle.web_extract_body.proofs.EitherStepsLemmas.{either_begins}
use Rattle.web_extract_body.proofs.either_argument.EitherFromRequest.from_request.Goals as goal

pub returns-clause-extracts : goal.returns-clause-extracts
returns-clause-extracts g c =
    let same = c.in_ok-request.ensures.request in
    rw same (either_begins
    (MeansBytes (payload_settings g.A.Layer.Configs.configurations c.args.req.now.request.layers)
    c.args.req.now.request.head.headers)
    (g.L.FromRequest.means c.args.req.now.request) (g.R.FromRequest.means c.args.req.now.request)
    (λ k y. bytes_gives g.A.Source.Source.feed c.in_ok-bytes.bytes k y) _ _
    (rw same at c.in_ok-bytes.ensures.extracts))
