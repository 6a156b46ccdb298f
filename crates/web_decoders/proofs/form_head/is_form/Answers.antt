use Rattle.std.proofs.Common.{ap, sym, ◌∙◌}
use Rattle.web_request.specs.Head.{Head}
use Rattle.web_decoders.proofs.WrittenTypesLemmas.{form_written}
use Rattle.web_decoders.proofs.form_head.is_form.Goals as goal

pub returns-then-is_written-clause-value : goal.returns-then-is_written-clause-value
returns-then-is_written-clause-value g c =
    let written = sym c.is_written.ensures ∙ c.if-is_written.true in
    sym (form_written c.args.req.now.request.head.headers
    (rw (ap (λ (h : Head). h.headers) c.head.ensures, c.as_bytes.ensures.value) at written))
