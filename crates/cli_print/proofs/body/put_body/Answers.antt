use Rattle.std.specs.Prelude.{◌++◌, codes}
use Rattle.web_body.specs.Payload.{payload_feed}
use Rattle.cli_print.specs.BodyLines.{mark_lines}
use Rattle.web_request_log.specs.HeaderDescriptions.{newline}
use Rattle.cli_print.proofs.TextLinesLemmas.{two_parts}
use Rattle.cli_print.proofs.body.put_body.Goals as goal

pub returns-in_ok-put-in-Stream : goal.returns-in_ok-put-in-Stream
returns-in_ok-put-in-Stream c =
    rw c.in-Stream.is (
    two_parts c.put_marks-in-Stream.result c.args.out.now.items (codes "body stream" ++ newline) (mark_lines (payload_feed (λ feed. feed) c.in-Stream.payload.value).marks)
    c.put-in-Stream.new.out.items c.put_marks-in-Stream.new.out.items c.in_ok-put-in-Stream.ensures (rw c.deref-in-Stream.ensures at c.put_marks-in-Stream.ensures)
    )
