use Rattle.web_multipart_stream.proofs.StreamLemmas.{due_when}
use Rattle.web_multipart_stream.proofs.stream.MultipartStream.new.Goals as goal

pub returns-clause-means : goal.returns-clause-means
returns-clause-means g c = due_when g.S.Source.feed c.args.req.now.request.head.headers c.args.part_limit c.args.payload.now c.of_request.result c.of_request.ensures.value
