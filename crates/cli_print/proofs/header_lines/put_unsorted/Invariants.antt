use Rattle.std.proofs.Common.{◌≡◌, ◌++◌, flat_map}
use Rattle.http_header.specs.HeaderMap.{pairs}
use Rattle.cli_print.specs.HeaderLines.{pair_line}
use Rattle.cli_print.proofs.header_lines.put_unsorted.Given as goal

abbrev pub invariant-loop-name : goal.invariant-loop-name
invariant-loop-name l = l.out.items ++ flat_map pair_line l.name-iterator ≡ l.fn.out.items ++ flat_map pair_line (pairs l.fn.headers)
