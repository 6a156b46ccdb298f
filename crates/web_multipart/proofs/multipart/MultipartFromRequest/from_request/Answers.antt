use Rattle.std.proofs.Common.{rules}
use Rattle.web_multipart_stream.specs.FormBoundaries.{boundary_of}
use Rattle.web_multipart_stream.specs.PartStreams.{schedule_of}
use Rattle.web_multipart.proofs.MultipartArgumentLemmas.{extracts_parts, few_first, left_or_taken}
use Rattle.web_multipart.proofs.multipart.MultipartFromRequest.from_request.Goals as goal

pub returns-clause-extracts : goal.returns-clause-extracts
returns-clause-extracts g c =
    rw c.new-2.ensures
    (extracts_parts g.A.Source.Source.feed _ c.min.result c.min.ensures c.args.req.now.request.head.headers c.args.payload.now c.new.new.payload (schedule_of g.A.Source.Source.feed c.in_ok-stream.stream)
    c.in_ok-stream.ensures.taken c.in_ok-stream.ensures.means)

pub returns-clause-payload : goal.returns-clause-payload
returns-clause-payload g c = left_or_taken (boundary_of c.args.req.now.request.head.headers) c.args.payload.now c.new.new.payload c.in_ok-stream.ensures.taken

pub new-requires-2 : goal.new-requires-2
new-requires-2 g c = (search rules, rw c.in_ok-stream.ensures.value (few_first c.args.req.now.request.head.headers c.min.result c.args.payload.now))
