use Rattle.std.proofs.Common.{◌∙◌, Ok, Err, ap, sym}
use Rattle.web_reply.proofs.HeaderStepLemmas.{is_replaced, is_not_replaced}
use Rattle.web_reply.proofs.header_setting.replace.Goals as goal

pub returns-in-Ok : goal.returns-in-Ok
returns-in-Ok c =
    is_replaced c.args.headers.now c.args.name c.args.value (λ full. let bad = c.in-Ok.ensures.full.1 full in absurd (cc))
    ∙ ap Ok (sym c.in-Ok.ensures.ok)

pub returns-in-Err-MaxSizeReached : goal.returns-in-Err-MaxSizeReached
returns-in-Err-MaxSizeReached c =
    let full = c.in-Err-MaxSizeReached.ensures.full.0 (ap Err c.in-Err-MaxSizeReached.field-0-is) in
    (is_not_replaced c.args.headers.now c.args.name c.args.value full, c.in-Err-MaxSizeReached.ensures.err)
