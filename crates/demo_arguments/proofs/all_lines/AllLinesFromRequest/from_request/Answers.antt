use Rattle.std.proofs.Common.{◌∙◌, ap}
use Rattle.demo_arguments.specs.LinesArgument.{limit_in}
use Rattle.demo_arguments.proofs.GatheredLinesLemmas.{lines_extracted, payload_left}
use Rattle.demo_arguments.proofs.all_lines.AllLinesFromRequest.from_request.Goals as goal

pub returns-clause-extracts : goal.returns-clause-extracts
returns-clause-extracts g c =
    rw c.new.ensures
    (lines_extracted g.A.Source.Source.feed c.args.req.now.request c.args.payload.now c.into_parts-left.result.1 c.from_parts-service.result c.new-reader.new.req
    (rw c.from_parts-service.ensures c.in_ok-request.ensures.request) (rw c.from_parts-service.ensures c.take.ensures.value) c.in_ok-reader.ensures.taken c.into_parts-left.ensures.payload
    c.in_ok-reader.field-0 c.limit-reader.result c.limit_in.result c.in_ok-reader.ensures.value c.limit-reader.ensures (c.limit_in.ensures ∙ ap limit_in c.match_info.ensures))

pub returns-clause-payload : goal.returns-clause-payload
returns-clause-payload g c =
    payload_left g.A.Source.Source.feed c.args.req.now.request c.args.payload.now c.into_parts-left.result.1 c.from_parts-service.result c.new-reader.new.req
    (rw c.from_parts-service.ensures c.in_ok-request.ensures.request) (rw c.from_parts-service.ensures c.take.ensures.value) c.in_ok-reader.ensures.taken c.into_parts-left.ensures.payload
