use Rattle.std.proofs.Common.{◌≡◌, ◌++◌, flat_map, string_bytes}
use Rattle.web_request_log.specs.HeaderDescriptions.{header_line, name_lines}
use Rattle.web_request_log.proofs.header_lines.push_name.Given as goal

abbrev pub invariant-loop-value : goal.invariant-loop-value
invariant-loop-value l =
    string_bytes l.out ++ flat_map (header_line l.fn.name) l.value-iterator
    ≡ string_bytes l.fn.out ++ name_lines l.fn.headers l.fn.name
