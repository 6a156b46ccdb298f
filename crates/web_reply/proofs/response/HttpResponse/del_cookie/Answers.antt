use Rattle.std.proofs.Common.{◌≡◌, ◌∙◌, arith, refl, sym}
use Rattle.std.specs.Prelude.{codes}
use Rattle.http_header.specs.HeaderMap.{get_all}
use Rattle.web_reply.specs.ResponseCookies.{deleted_count}
use Rattle.web_reply.proofs.CookieEntryLemmas.{none_gone, some_gone}
use Rattle.web_reply.proofs.ResponseCookieLemmas.{none_deleted}
use Rattle.web_reply.proofs.response.HttpResponse.del_cookie.Goals as goal

pub returns-else-count-gt0-clause-ok : goal.returns-else-count-gt0-clause-ok
returns-else-count-gt0-clause-ok g c =
    let zero : c.in_ok-kept.count ≡ 0 = omega arith in
    let headers = c.args.self.now.head.headers in
    let count : c.in_ok-kept.count ≡ deleted_count c.args.name.now (get_all headers (codes "set-cookie")) =
    rw (← c.headers.ensures) c.in_ok-kept.ensures.count in
    record {
      headers = none_deleted c.args.name.now headers (sym count ∙ zero);
      entries = none_gone c.args.name.now headers (sym count ∙ zero);
      rest = refl;
      count = count;
    }
