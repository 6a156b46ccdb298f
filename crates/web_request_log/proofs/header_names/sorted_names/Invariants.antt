use Rattle.std.proofs.Common.{◌≡◌, ◌++◌, map}
use Rattle.http_header.specs.HeaderMap.{keys}
use Rattle.web_request_log.proofs.header_names.sorted_names.Given as goal

abbrev pub invariant-loop-name : goal.invariant-loop-name
invariant-loop-name l = map (λ n. n.now) l.names.items ++ l.name-iterator ≡ keys l.fn.headers
