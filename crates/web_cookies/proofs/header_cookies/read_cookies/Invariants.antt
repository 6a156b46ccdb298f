use Rattle.std.proofs.Common.{◌≡◌}
use Rattle.std.specs.Prelude.{codes}
use Rattle.http_header.specs.HeaderMap.{get_all}
use Rattle.web_cookies.specs.HeaderCookies.{cookies_said}
use Rattle.web_cookies.proofs.HeaderLemmas.{onto}
use Rattle.web_cookies.proofs.header_cookies.read_cookies.Given as goal

abbrev pub invariant-loop-value : goal.invariant-loop-value
invariant-loop-value l =
    onto l.cookies.items (cookies_said l.encoded l.value-iterator)
    ≡ cookies_said l.encoded (get_all l.fn.headers (codes "cookie"))
