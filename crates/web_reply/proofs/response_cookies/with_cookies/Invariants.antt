use Rattle.std.proofs.Common.{◌≡◌}
use Rattle.std.specs.Prelude.{codes, None}
use Rattle.http_header.specs.HeaderMap.{index_of, remove}
use Rattle.web_reply.specs.ResponseCookies.{HasCookies, with_cookies}
use Rattle.web_reply.proofs.response_cookies.with_cookies.Given as goal

abbrev pub invariant-loop-cookie : goal.invariant-loop-cookie
invariant-loop-cookie l = record {
  has : HasCookies l.fn.headers l.yielded l.changed;
  entries : l.changed ≡ with_cookies l.fn.headers l.yielded;
  absent : index_of (remove l.fn.headers (codes "set-cookie")) (codes "set-cookie") ≡ None;
}
