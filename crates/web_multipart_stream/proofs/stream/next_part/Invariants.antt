use Rattle.web_body.specs.Payload.{payload_feed}
use Rattle.web_multipart_stream.proofs.TurnLemmas.{ReadsOn}
use Rattle.web_multipart_stream.proofs.stream.next_part.Given as goal

abbrev pub invariant-turns : goal.invariant-turns
invariant-turns g l = ReadsOn g.S.Source.feed l.fn.payload l.fn.reader l.fn.last l.payload l.reader l.last

abbrev pub decreases-turns : goal.decreases-turns
decreases-turns g l = (payload_feed g.S.Source.feed l.payload).answers
