use Rattle.std.proofs.Common.{Err, Some, ap, string_bytes}
use Rattle.web_docs.proofs.FieldValueLemmas.{given_value, refused_value}
use Rattle.web_folders.proofs.plain_replies.location.Goals as goal

pub returns-in-Ok : goal.returns-in-Ok
returns-in-Ok c = given_value (Some (string_bytes c.args.text)) c.in-Ok.value c.as_bytes-bytes.ensures.valid c.in-Ok.ensures.ok

pub returns-in-Err-Invalid : goal.returns-in-Err-Invalid
returns-in-Err-Invalid c = refused_value (Some (string_bytes c.args.text)) (c.in-Err-Invalid.ensures.invalid.0 (ap Err c.in-Err-Invalid.field-0-is))
