use Rattle.std.proofs.Common.{Err, ap, refl}
use Rattle.web_multipart_parts.proofs.HeadLemmas.{name_read, name_unread}
use Rattle.web_multipart_parts.proofs.part_head.read_name.Goals as goal

pub returns-in-Ok : goal.returns-in-Ok
returns-in-Ok c = rw (name_read c.args.text.now (λ bad. let refused = c.in-Ok.ensures.invalid.1 bad in absurd (cc)), c.in-Ok.ensures.ok) refl

pub returns-in-Err-Invalid : goal.returns-in-Err-Invalid
returns-in-Err-Invalid c = rw (name_unread c.args.text.now (c.in-Err-Invalid.ensures.invalid.0 (ap Err c.in-Err-Invalid.field-0-is))) refl
