use Rattle.web_extract.specs.BodyFutures.{body_finished, bytes_gives}
use Rattle.web_extract_body.proofs.EitherStepsLemmas.{left_begins}
use Rattle.web_extract_body.proofs.either_steps.begin_left.Goals as goal

pub returns-in-Ok-begin : goal.returns-in-Ok-begin
returns-in-Ok-begin g c =
    left_begins (λ b k y. bytes_gives g.A.Source.Source.feed b k y) g.L.Future.Poll.gives
    g.R.Future.Poll.gives (g.L.FromRequest.means c.args.req.now.request)
    (g.R.FromRequest.means c.args.req.now.request) (λ b. body_finished b)
    g.L.Future.Poll.is_finished g.R.Future.Poll.is_finished
    c.in-Ok-begin.left c.args.body c.in-Ok.lent c.in-Ok.ensures.cases c.in-Ok-begin.ensures.on
    c.poll_left.result c.poll_left.ensures
