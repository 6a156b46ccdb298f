use Rattle.std.proofs.Common.{sym, arith}
use Rattle.web_multipart_parts.proofs.ContentLemmas.{head_endless, head_long, head_reads}
use Rattle.web_multipart_parts.proofs.part_machine.head_step.Goals as goal

pub returns-then-place-le-HEAD_SIZE : goal.returns-then-place-le-HEAD_SIZE
returns-then-place-le-HEAD_SIZE c =
    let test = c.if-place-le-HEAD_SIZE.true in
    head_reads c.args.bytes.now c.in-Some.place (sym c.in-Some.ensures.place) (omega (arith, test)) c.read_head.result c.read_head.ensures

pub returns-else-place-le-HEAD_SIZE : goal.returns-else-place-le-HEAD_SIZE
returns-else-place-le-HEAD_SIZE c =
    let test = c.if-place-le-HEAD_SIZE.false in
    head_long c.args.bytes.now c.in-Some.place (sym c.in-Some.ensures.place) (omega (arith, test))

pub returns-then-bytes-ge-HEAD_SIZE : goal.returns-then-bytes-ge-HEAD_SIZE
returns-then-bytes-ge-HEAD_SIZE c =
    let test = c.if-bytes-ge-HEAD_SIZE.true in
    head_endless c.args.bytes.now (sym c.in-None.ensures.place) (omega (arith, test))
