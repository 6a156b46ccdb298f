use Rattle.std.proofs.Common.{Err, ap, sym}
use Rattle.web_reply.proofs.HeaderStepLemmas.{is_named, is_not_named}
use Rattle.web_reply.proofs.header_setting.named.Goals as goal

pub returns-in-Ok : goal.returns-in-Ok
returns-in-Ok g c =
    let same = c.as_bytes.ensures.value in
    let known = is_named c.as_bytes.result.now (g.V.TryIntoHeaderValue.value c.args.value) (λ no. let bad = c.in-Ok.ensures.invalid.1 no in absurd (cc)) in
    rw (← same, known, ← c.in-Ok.ensures.ok) c.valued.ensures

pub returns-in-Err-Invalid : goal.returns-in-Err-Invalid
returns-in-Err-Invalid g c =
    let same = c.as_bytes.ensures.value in
    rw (← same) (sym (is_not_named c.as_bytes.result.now (g.V.TryIntoHeaderValue.value c.args.value) (c.in-Err-Invalid.ensures.invalid.0 (ap Err c.in-Err-Invalid.field-0-is))))
