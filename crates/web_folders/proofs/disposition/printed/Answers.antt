use Rattle.std.proofs.Common.{Err, Some, ap, subst}
use Rattle.http_header.specs.FieldValue.{plain_value}
use Rattle.web_texts.specs.HeaderValues.{GivesValue}
use Rattle.web_entities.specs.DispositionTexts.{disposition_text}
use Rattle.web_docs.proofs.FieldValueLemmas.{given_value, refused_value}
use Rattle.web_folders.proofs.disposition.printed.Goals as goal

pub returns-in-Ok : goal.returns-in-Ok
returns-in-Ok c = given_value (Some (disposition_text c.args.disposition.now)) c.in-Ok.value c.as_bytes-bytes.ensures.valid c.in-Ok.ensures

pub returns-in-Err-Of : goal.returns-in-Err-Of
returns-in-Err-Of c =
    refused_value (Some (disposition_text c.args.disposition.now))
    (subst (λ r. GivesValue (plain_value (disposition_text c.args.disposition.now)) r) (ap Err c.in-Err-Of.field-0-is) c.in-Err-Of.ensures)
