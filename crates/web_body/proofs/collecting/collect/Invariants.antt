use Rattle.web_body.specs.Payload.{payload_feed}
use Rattle.web_body.proofs.CollectorLoopLemmas.{Reading_on}
use Rattle.web_body.proofs.collecting.collect.Given as goal

abbrev pub invariant-loop-piece : goal.invariant-loop-piece
invariant-loop-piece g l = Reading_on g.S.Source.feed l.limit l.fn.payload l.fn.held l.payload l.held

abbrev pub decreases-loop-piece : goal.decreases-loop-piece
decreases-loop-piece g l = (payload_feed g.S.Source.feed l.payload).answers
