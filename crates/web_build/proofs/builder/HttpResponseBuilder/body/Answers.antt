use Rattle.web_reply.specs.ResponseBodies.{box_plain}
use Rattle.web_reply.specs.Replies.{plain_reply}
use Rattle.web_build.proofs.BuiltLemmas.{gives_same, has_body, is_built}
use Rattle.web_build.proofs.builder.HttpResponseBuilder.body.Goals as goal

pub returns : goal.returns
returns g c =
    let is = is_built g.B.MessageBody.plain c.args.body c.args.self.response c.args.self.error c.message_body-built.result c.message_body-built.ensures.value in
    record {
      value = gives_same (plain_reply (box_plain g.S.Source.feed)) c.in_common_form.result _ _ is c.in_common_form.ensures.value;
      memory = λ none needs_none. c.in_common_form.ensures.memory
          (has_body g.B.MessageBody.needs_no_memory c.args.body c.args.self.response c.args.self.error c.message_body-built.result c.message_body-built.ensures.value none needs_none);
    }
