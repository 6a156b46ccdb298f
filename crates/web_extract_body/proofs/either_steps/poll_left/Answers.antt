use Rattle.std.proofs.Common.{refl, Ok}
use Rattle.web_request.specs.Body.{whole}
use Rattle.web_extract.specs.BodyFutures.{body_finished, bytes_gives}
use Rattle.web_extract_body.proofs.EitherStepsLemmas.{left_refuses, left_later}
use Rattle.web_extract_body.proofs.either_steps.poll_left.Goals as goal

pub returns-in-Waits : goal.returns-in-Waits
returns-in-Waits g c = (
  c.in-Waits.ensures.0,
  left_later (λ b k y. bytes_gives g.A.Source.Source.feed b k y) g.L.Future.Poll.gives
      g.R.Future.Poll.gives (g.L.FromRequest.means c.args.req.now.request)
      (g.R.FromRequest.means c.args.req.now.request) (λ b. body_finished b)
      g.L.Future.Poll.is_finished g.R.Future.Poll.is_finished
      c.args.left c.in-Waits.left (whole c.args.body) c.in-Waits.ensures.1,
)

pub returns-in-Comes-Ok : goal.returns-in-Comes-Ok
returns-in-Comes-Ok g c = (
  0,
  0,
  Ok c.in-Comes-Ok.value,
  rw c.in-Comes-Ok.field-0-is at c.in-Comes-Ok.ensures,
  (refl, refl),
  refl,
)

pub returns-in-Comes-Err : goal.returns-in-Comes-Err
returns-in-Comes-Err g c =
    let now = rw c.in-Comes-Err.field-0-is at c.in-Comes-Err.ensures in
    left_refuses (λ b k y. bytes_gives g.A.Source.Source.feed b k y) g.L.Future.Poll.gives
    g.R.Future.Poll.gives (g.L.FromRequest.means c.args.req.now.request)
    (g.R.FromRequest.means c.args.req.now.request) (λ b. body_finished b)
    g.L.Future.Poll.is_finished g.R.Future.Poll.is_finished
    c.args.left c.in-Comes-Err.e (whole c.args.body) now
    c.begin_right.result c.begin_right.ensures
