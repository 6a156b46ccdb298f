use Rattle.std.specs.Prelude.{codes}
use Rattle.web_codec.specs.PrintedValues.{PrintsForm}
use Rattle.web_body.specs.declared.errors.form_error.UrlencodedError.TheVariants as form
use Rattle.web_extract.specs.Refusals.{form_fault}
use Rattle.web_extract_body.proofs.ValueRepliesLemmas.{refusal_responds, text_responds}
use Rattle.web_extract_body.proofs.form_responder.FormResponder.respond_to.Goals as goal

pub returns-in-Ok-clause-responds : goal.returns-in-Ok-clause-responds
returns-in-Ok-clause-responds g c =
    text_responds (codes "application/x-www-form-urlencoded") (λ e. form_fault (form.Serialize e)) (PrintsForm (g.T.WritePairs.writes_pairs c.args.self.0))
    c.in-Ok.text c.in-Ok.ensures c.text_response.result c.text_response.ensures

pub returns-in-Err-Of-clause-responds : goal.returns-in-Err-Of-clause-responds
returns-in-Err-Of-clause-responds g c =
    refusal_responds (codes "application/x-www-form-urlencoded") (λ e. form_fault (form.Serialize e)) (PrintsForm (g.T.WritePairs.writes_pairs c.args.self.0))
    c.in-Err-Of.fault (rw c.in-Err-Of.field-0-is at c.in-Err-Of.ensures) c.from_error.result (rw c.from-error.ensures at c.from_error.ensures)
