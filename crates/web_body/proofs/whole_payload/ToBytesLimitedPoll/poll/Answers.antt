use Rattle.web_body.specs.WholePayloads.{limited_answer}
use Rattle.web_body.proofs.MessageBodyLemmas.{shifts_answer}
use Rattle.web_body.proofs.whole_payload.ToBytesLimitedPoll.poll.Goals as goal

pub returns-clause-shift : goal.returns-clause-shift
returns-clause-shift g c =
    rw (c.limited_step.ensures, ← c.self.view_is) (shifts_answer limited_answer c.poll.result _ _ c.poll.ensures.shift)
