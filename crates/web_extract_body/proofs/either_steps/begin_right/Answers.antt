use Rattle.web_request.specs.Body.{whole}
use Rattle.web_extract.specs.BodyFutures.{body_finished, bytes_gives}
use Rattle.web_extract_body.proofs.EitherStepsLemmas.{right_begins}
use Rattle.web_extract_body.proofs.either_steps.begin_right.Goals as goal

pub returns-in-Ok : goal.returns-in-Ok
returns-in-Ok g c =
    right_begins (λ b k y. bytes_gives g.A.Source.Source.feed b k y) g.L.Future.Poll.gives
    g.R.Future.Poll.gives (g.L.FromRequest.means c.args.req.now.request)
    (g.R.FromRequest.means c.args.req.now.request) (λ b. body_finished b)
    g.L.Future.Poll.is_finished g.R.Future.Poll.is_finished
    c.in-Ok.right c.args.refusal (whole c.args.body) c.in-Ok.ensures.on
    c.poll_right.result c.poll_right.ensures
