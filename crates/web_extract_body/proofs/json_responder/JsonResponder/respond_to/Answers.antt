use Rattle.std.specs.Prelude.{codes}
use Rattle.web_codec.specs.PrintedValues.{PrintsJson}
use Rattle.web_body.specs.declared.errors.json_error.JsonPayloadError.TheVariants as json
use Rattle.web_extract.specs.Refusals.{json_fault}
use Rattle.web_extract_body.proofs.ValueRepliesLemmas.{refusal_responds, text_responds}
use Rattle.web_extract_body.proofs.json_responder.JsonResponder.respond_to.Goals as goal

pub returns-in-Ok-clause-responds : goal.returns-in-Ok-clause-responds
returns-in-Ok-clause-responds g c =
    text_responds (codes "application/json") (λ e. json_fault (json.Serialize e)) (PrintsJson (g.T.WriteJson.writes c.args.self.0))
    c.in-Ok.text c.in-Ok.ensures c.text_response.result c.text_response.ensures

pub returns-in-Err-Of-clause-responds : goal.returns-in-Err-Of-clause-responds
returns-in-Err-Of-clause-responds g c =
    refusal_responds (codes "application/json") (λ e. json_fault (json.Serialize e)) (PrintsJson (g.T.WriteJson.writes c.args.self.0))
    c.in-Err-Of.fault (rw c.in-Err-Of.field-0-is at c.in-Err-Of.ensures) c.from_error.result (rw c.from-error.ensures at c.from_error.ensures)
