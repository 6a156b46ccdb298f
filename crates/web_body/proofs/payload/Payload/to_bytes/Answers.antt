use Rattle.web_body.specs.MessageBody.{answer_of}
use Rattle.web_body.proofs.WholePayloadsLemmas.{reads_all}
use Rattle.web_body.proofs.payload.Payload.to_bytes.Goals as goal

pub returns-clause-means : goal.returns-clause-means
returns-clause-means g c = rw c.new.ensures.value (reads_all answer_of _)
