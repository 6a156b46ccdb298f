use Rattle.web_lines.specs.LineReading.{schedule_of}
use Rattle.demo_arguments.proofs.GatheredLinesLemmas.{stalled}
use Rattle.demo_arguments.proofs.all_lines.gather.Goals as goal

pub returns-in-Pending : goal.returns-in-Pending
returns-in-Pending g c =
    stalled (schedule_of g.S.Source.feed c.args.reader.now) c.args.lines.now.items (schedule_of g.S.Source.feed c.lines.reader) c.lines.lines.items c.lines.invariant
    (schedule_of g.S.Source.feed c.poll_next.new.self) c.in-Pending.ensures.gives
