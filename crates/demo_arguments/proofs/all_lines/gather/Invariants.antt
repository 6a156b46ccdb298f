use Rattle.web_body.specs.Payload.{payload_feed}
use Rattle.web_lines.specs.LineReading.{schedule_of, work_left}
use Rattle.demo_arguments.proofs.GatheredLinesLemmas.{GoesOnWith}
use Rattle.demo_arguments.proofs.all_lines.gather.Given as goal

abbrev pub invariant-lines : goal.invariant-lines
invariant-lines g l =
    GoesOnWith (schedule_of g.S.Source.feed l.fn.reader) l.fn.lines.items (schedule_of g.S.Source.feed l.reader) l.lines.items

abbrev pub decreases-lines : goal.decreases-lines
decreases-lines g l = work_left (payload_feed g.S.Source.feed l.reader.payload).answers l.reader.came
