use Rattle.std.proofs.Common.{Err, ap, subst, sym}
use Rattle.web_texts.specs.HeaderValues.{GivesValue}
use Rattle.web_reply.proofs.HeaderStepLemmas.{is_valued, is_not_valued}
use Rattle.web_reply.proofs.header_setting.valued.Goals as goal

pub returns-in-Ok : goal.returns-in-Ok
returns-in-Ok g c = rw (← c.in-Ok.ensures) (sym (is_valued c.args.name _ c.as_bytes-bytes.ensures.valid))

pub returns-in-Err-Of : goal.returns-in-Err-Of
returns-in-Err-Of g c = sym (is_not_valued c.args.name _ (subst (GivesValue (g.V.TryIntoHeaderValue.value c.args.value)) (ap Err c.in-Err-Of.field-0-is) c.in-Err-Of.ensures))
