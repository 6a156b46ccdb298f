use Rattle.std.proofs.Common.{Err, ap, subst}
use Rattle.std.specs.Prelude.{IfSome}
use Rattle.http_header.specs.FieldValue.{plain_value}
use Rattle.web_texts.specs.HeaderValues.{GivesValue}
use Rattle.web_docs.proofs.FieldValueLemmas.{given_value, refused_value}
use Rattle.web_docs.proofs.stored.field_value.Goals as goal

pub returns-in-Ok : goal.returns-in-Ok
returns-in-Ok g c = given_value (g.T.Display.output c.args.item.now) c.in-Ok.value c.as_bytes-bytes.ensures.valid c.in-Ok.ensures

pub returns-in-Err-Of : goal.returns-in-Err-Of
returns-in-Err-Of g c =
    refused_value (g.T.Display.output c.args.item.now)
    (subst (λ r. IfSome (g.T.Display.output c.args.item.now) (λ text. GivesValue (plain_value text) r)) (ap Err c.in-Err-Of.field-0-is) c.in-Err-Of.ensures)
