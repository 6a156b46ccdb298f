use Rattle.std.proofs.Common.{◌≡◌, ◌+◌, ◌++◌}
use Rattle.http_header.specs.HeaderMap.{get_all}
use Rattle.std.specs.Prelude.{codes}
use Rattle.web_reply.specs.ResponseCookies.{deleted_count, kept_cookies}
use Rattle.web_reply.proofs.response_cookies.kept_cookies.Given as goal

abbrev pub invariant-loop-value : goal.invariant-loop-value
invariant-loop-value l = record {
  kept : l.kept.items ++ kept_cookies l.fn.name l.value-iterator
      ≡ kept_cookies l.fn.name (get_all l.fn.headers (codes "set-cookie"));
  count : l.count + deleted_count l.fn.name l.value-iterator
      ≡ deleted_count l.fn.name (get_all l.fn.headers (codes "set-cookie"));
}
