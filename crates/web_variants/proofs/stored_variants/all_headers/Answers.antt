use Rattle.std.proofs.Common.{arith}
use Rattle.std.proofs.lemmas.Result.{err_from_is_err_and}
use Rattle.web_variants.proofs.StoredVariantLemmas.{one_more, one_refused}
use Rattle.web_variants.proofs.stored_variants.all_headers.Goals as goal

pub returns-in_err-headers : goal.returns-in_err-headers
returns-in_err-headers c =
    let p = err_from_is_err_and c.from_residual-in_err-headers.result c.from_residual-in_err-headers.ensures.1 in
    rw (p.1, p.2)
    (one_refused c.args.variants.now c.variants.all.items c.variants.rest.now c.in-Some.variant.now c.in-Some.later.now c.in-Some.ensures.cases.0 c.variants.invariant c.len.result (omega (arith, c.len.ensures, c.variants.all.ok.0)) c.in_err-headers.field-0.0 c.in_err-headers.ensures)

pub variants-preserved : goal.variants-preserved
variants-preserved c =
    one_more c.args.variants.now c.variants.all.items c.variants.rest.now c.in-Some.variant.now c.in-Some.later.now c.in-Some.ensures.cases.0 c.variants.invariant c.len.result (omega (arith, c.len.ensures, c.variants.all.ok.0)) c.in_ok-headers.headers c.push.new.self.items c.in_ok-headers.ensures c.in_ok-push.ensures.items
