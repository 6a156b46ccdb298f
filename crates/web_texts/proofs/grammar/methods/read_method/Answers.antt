use Rattle.std.proofs.Common.{◌∙◌, Some, Err, ap, sym}
use Rattle.web_texts.proofs.MethodLemmas.{method_read, method_refused}
use Rattle.web_texts.proofs.grammar.methods.read_method.Goals as goal

pub returns-in-Ok : goal.returns-in-Ok
returns-in-Ok c =
    method_read c.args.text.now (λ no. let bad = c.in-Ok.ensures.invalid.1 no in absurd (cc))
    ∙ ap Some (sym c.in-Ok.ensures.ok)

pub returns-in-Err-Invalid : goal.returns-in-Err-Invalid
returns-in-Err-Invalid c =
    method_refused c.args.text.now (c.in-Err-Invalid.ensures.invalid.0 (ap Err c.in-Err-Invalid.field-0-is))
