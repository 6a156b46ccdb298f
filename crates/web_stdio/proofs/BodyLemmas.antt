-- A connection after a body.
use Rattle.std.proofs.Common.{◌≡◌, ◌≤◌, refl, arith}
use Rattle.web_http1.specs.Connections.{ConnectionView, bytes_open}
use Rattle.web_http1.specs.DueBodies.{after_body}
use Rattle.web_http1.specs.declared.due_body.BodyStage.{BodyStage}
use Rattle.web_http1.specs.declared.due_body.BodyStage.TheVariants as stage

-- the same bytes are left
pub left_after : (s : BodyStage) (c : ConnectionView) → (after_body s c).left ≡ c.left
left_after (stage.Due f) c = refl
left_after stage.Sent c = refl
left_after stage.Broken c = refl

-- no more are open
pub open_after : (s : BodyStage) (c : ConnectionView) → bytes_open (after_body s c) ≤ bytes_open c
open_after (stage.Due f) c = omega arith
open_after stage.Sent c = omega arith
open_after stage.Broken c = omega arith
