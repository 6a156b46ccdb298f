use Rattle.std.proofs.Common.{refl, Err}
use Rattle.web_extract.specs.BodyFutures.{body_finished, bytes_gives}
use Rattle.web_extract_body.proofs.EitherStepsLemmas.{bytes_come}
use Rattle.web_extract_body.proofs.either_steps.poll_bytes.Goals as goal

pub returns-in-Comes-Ok : goal.returns-in-Comes-Ok
returns-in-Comes-Ok g c =
    let now = rw c.in-Comes-Ok.field-0-is at c.in-Comes-Ok.ensures in
    bytes_come (λ b k y. bytes_gives g.A.Source.Source.feed b k y) g.L.Future.Poll.gives
    g.R.Future.Poll.gives (g.L.FromRequest.means c.args.req.now.request)
    (g.R.FromRequest.means c.args.req.now.request) (λ b. body_finished b)
    g.L.Future.Poll.is_finished g.R.Future.Poll.is_finished
    c.args.bytes c.in-Comes-Ok.body now c.begin_left.result c.begin_left.ensures

pub returns-in-Comes-Err : goal.returns-in-Comes-Err
returns-in-Comes-Err g c = (
  0,
  0,
  Err c.in-Comes-Err.e,
  rw c.in-Comes-Err.field-0-is at c.in-Comes-Err.ensures,
  (refl, refl),
  refl,
)
