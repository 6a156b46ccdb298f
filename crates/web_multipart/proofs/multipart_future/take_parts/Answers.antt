use Rattle.std.proofs.Common.{sym, ◌∙◌}
use Rattle.web_multipart_stream.specs.PartStreams.{schedule_of}
use Rattle.web_multipart.proofs.CollectionLemmas.{collect_stall}
use Rattle.web_multipart.proofs.multipart_future.take_parts.Goals as goal

pub returns-in-Pending-clause-collects : goal.returns-in-Pending-clause-collects
returns-in-Pending-clause-collects g c =
    sym c.polls.invariant.same
    ∙ collect_stall c.polls.parts.items (schedule_of g.S.Source.feed c.polls.stream) (schedule_of g.S.Source.feed c.poll_next.new.self) c.in-Pending.ensures.gives
