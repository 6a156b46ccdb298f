use Rattle.std.proofs.Common.{◌≡◌, ◌≤◌, length}
use Rattle.web_reply.specs.ResponseCookies.{cookies_left}
use Rattle.web_reply.proofs.response_cookies.next_cookie.Given as goal

abbrev pub invariant-loop-value : goal.invariant-loop-value
invariant-loop-value l = record {
  same : cookies_left l.values ≡ cookies_left l.fn.values;
  fewer : length l.values ≤ length l.fn.values;
}

abbrev pub decreases-loop-value : goal.decreases-loop-value
decreases-loop-value l = length l.values
