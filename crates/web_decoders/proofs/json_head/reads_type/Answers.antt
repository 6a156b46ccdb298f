use Rattle.std.proofs.Common.{ap, sym, ◌∙◌, option_copied}
use Rattle.web_request.specs.Head.{Head}
use Rattle.web_decoders.proofs.WrittenTypesLemmas.{json_written}
use Rattle.web_decoders.proofs.json_head.reads_type.Goals as goal

pub returns-then-is_written-clause-value : goal.returns-then-is_written-clause-value
returns-then-is_written-clause-value g c =
    let written = sym c.is_written.ensures ∙ c.if-is_written.true in
    json_written g.P.AllowType.allows_type (option_copied c.args.ctype_fn) c.args.ctype_required c.args.req.now.request.head.headers
    (rw (ap (λ (h : Head). h.headers) c.head.ensures, c.as_bytes.ensures.value) at written)
