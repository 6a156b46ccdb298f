use Rattle.web_reply.proofs.CookieEntryLemmas.{absent_after, no_entries, one_entry_more}
use Rattle.web_reply.proofs.ResponseCookieLemmas.{none_left, one_more}
use Rattle.web_reply.proofs.response_cookies.with_cookies.Goals as goal

pub loop-cookie-init : goal.loop-cookie-init
loop-cookie-init c =
    rw (c.remove.ensures.after, ← c.in_ok-changed.ensures) (record {
      has = none_left c.in_ok-changed.changed c.len-count.ensures.valid.unique;
      entries = no_entries c.in_ok-changed.changed;
      absent = absent_after c.in_ok-changed.changed c.len-count.ensures.valid.unique;
    })

pub loop-cookie-preserved : goal.loop-cookie-preserved
loop-cookie-preserved c =
    let so_far = c.loop-cookie.invariant in
    rw (c.in-Ok.ensures.ok) (record {
      has = one_more c.args.headers.now c.loop-cookie.changed c.loop-cookie.yielded c.in-Some.cookie so_far.has;
      entries = one_entry_more c.args.headers.now c.loop-cookie.changed c.loop-cookie.yielded c.in-Some.cookie so_far.absent so_far.entries;
      absent = so_far.absent;
    })
