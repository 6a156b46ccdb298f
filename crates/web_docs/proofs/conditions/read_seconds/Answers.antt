use Rattle.std.proofs.Common.{sym}
use Rattle.web_texts.specs.HeaderTexts.{first_text_of}
use Rattle.web_docs.specs.Conditions.{values}
use Rattle.web_docs.proofs.DateLemmas.{secs_said, secs_unsaid}
use Rattle.web_docs.proofs.conditions.read_seconds.Goals as goal

pub returns-in-Ok : goal.returns-in-Ok
returns-in-Ok c = rw c.unix_secs.ensures.value
    (sym (secs_said (first_text_of (values c.args.name.now c.args.headers.now)) c.in-Ok.date c.in-Ok.ensures.says))

pub returns-in-Err-Of : goal.returns-in-Err-Of
returns-in-Err-Of c =
    sym (secs_unsaid (first_text_of (values c.args.name.now c.args.headers.now)) (rw c.in-Err-Of.field-0-is at c.in-Err-Of.ensures.says))
