use Rattle.std.proofs.Common.{ap, subst}
use Rattle.std.specs.Prelude.{Ok, Err}
use Rattle.web_texts.specs.declared.memory.Fail.{Fail}
use Rattle.web_codec.specs.Answers.{Answers}
use Rattle.web_codec.specs.PrintedValues.{PrintsJson}
use Rattle.web_codec.specs.declared.faults.WriteFault.{WriteFault}
use Rattle.web_reply.specs.ResponseBodies.{box_plain, whole_plain}
use Rattle.web_reply.specs.Replies.{Fault, error_reply, plain_reply}
use Rattle.web_build.proofs.BuiltLemmas.{gives_json, gives_same}
use Rattle.web_build.proofs.builder.HttpResponseBuilder.json.Goals as goal

pub returns-in-Ok : goal.returns-in-Ok
returns-in-Ok g c = record {
  value = gives_json (plain_reply (box_plain g.S.Source.feed)) c.typed_body.result (g.T.WriteJson.writes c.args.value.now) c.args.self (Ok c.in-Ok.text)
      c.in-Ok.ensures c.typed_body.ensures.value;
}

pub returns-in-Err-Of : goal.returns-in-Err-Of
returns-in-Err-Of g c =
    let view = plain_reply (box_plain g.S.Source.feed) in
    let refused = ap (λ (f : Fault). plain_reply whole_plain (error_reply f)) c.from.ensures in
    let same = gives_same view c.refusal_in_common_form.result _ _ refused c.refusal_in_common_form.ensures in
    let written = subst (λ (f : Fail WriteFault). Answers (PrintsJson (g.T.WriteJson.writes c.args.value.now)) (Err f)) c.in-Err-Of.field-0-is c.in-Err-Of.ensures in
    record {
      value = gives_json view c.refusal_in_common_form.result (g.T.WriteJson.writes c.args.value.now) c.args.self (Err c.in-Err-Of.fault)
          written same;
    }
