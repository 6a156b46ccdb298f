use Rattle.std.proofs.Common.{◌≡◌}
use Rattle.http_header.specs.HeaderMap.{keys}
use Rattle.cli_print.specs.HeaderLines.{is_increasing, is_increasing_from}
use Rattle.cli_print.proofs.header_lines.has_sorted_names.Given as goal

abbrev pub invariant-loop-name : goal.invariant-loop-name
invariant-loop-name l = is_increasing_from l.last l.name-iterator ≡ is_increasing (keys l.fn.headers)
