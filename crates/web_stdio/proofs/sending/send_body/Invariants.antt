use Rattle.std.proofs.Common.{◌≡◌}
use Rattle.web_http1.specs.DueBodies.{body_feed}
use Rattle.web_stdio.proofs.sending.send_body.Given as goal

abbrev pub invariant-pieces : goal.invariant-pieces
invariant-pieces g l = record {
  same : l.body.connection ≡ l.fn.body.connection;
}

abbrev pub decreases-pieces : goal.decreases-pieces
decreases-pieces g l = (body_feed g.S.Source.feed l.body).answers
