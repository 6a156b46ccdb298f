use Rattle.std.proofs.Common.{◌≡◌}
use Rattle.std.specs.Prelude.{None}
use Rattle.web_body.specs.HeadTests.{head_refusal}
use Rattle.web_body.proofs.MessageBodyLemmas.{shifts_result}
use Rattle.web_body.proofs.message_body.HttpMessageBodyPoll.poll.Goals as goal

pub returns-clause-shift : goal.returns-clause-shift
returns-clause-shift g c =
    let before : head_refusal c.self.inside.declared c.self.inside.is_coded c.self.inside.body.limit ≡ None = cc in
    let after : head_refusal c.self.inside.declared c.self.inside.is_coded c.poll-step.new.self.limit ≡ None = cc in
    rw (c.payload_step.ensures, ← c.self.view_is) (shifts_result c.poll-step.result _ _ _ _ before after c.poll-step.ensures.shift)
