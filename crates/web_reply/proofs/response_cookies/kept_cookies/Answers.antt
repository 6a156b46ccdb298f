use Rattle.std.proofs.Common.{◌∙◌, ap, arith, length, sym}
use Rattle.std.specs.Prelude.{codes}
use Rattle.http_header.specs.HeaderMap.{get_all}
use Rattle.web_reply.specs.ResponseCookies.{deleted_count}
use Rattle.web_reply.proofs.ResponseCookieLemmas.{deleted_within, deletes_one_more}
use Rattle.web_reply.proofs.response_cookies.kept_cookies.Goals as goal

pub overflow_add-count : goal.overflow_add-count
overflow_add-count c =
    let name = c.args.name.now in
    let one = deletes_one_more name c.in-Some.value.now c.next.new.self (sym c.in_ok-is_named.ensures ∙ c.if-branch.true) in
    let here = ap (deleted_count name) c.in-Some.ensures.steps in
    let within = deleted_within name (get_all c.args.headers.now (codes "set-cookie")) in
    let fits = c.get_all-value-items.ensures.fits in
    let same = ap length c.get_all-value-items.ensures.value in
    let count = c.loop-value.invariant.count in
    omega arith
