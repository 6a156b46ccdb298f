use Rattle.std.proofs.Common.{◌≡◌, ◌++◌, flat_map}
use Rattle.cli_print.specs.HeaderLines.{header_line, name_lines}
use Rattle.cli_print.proofs.header_lines.put_values.Given as goal

abbrev pub invariant-loop-value : goal.invariant-loop-value
invariant-loop-value l = l.out.items ++ flat_map (header_line l.fn.name) l.value-iterator ≡ l.fn.out.items ++ name_lines l.fn.headers l.fn.name
