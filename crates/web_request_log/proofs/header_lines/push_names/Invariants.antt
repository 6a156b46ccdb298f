use Rattle.std.proofs.Common.{◌≡◌, ◌++◌, flat_map, map, string_bytes}
use Rattle.std.specs.Vec.Iter.{into_iter_items}
use Rattle.web_request_log.specs.HeaderDescriptions.{name_lines}
use Rattle.web_request_log.proofs.header_lines.push_names.Given as goal

abbrev pub invariant-loop-name : goal.invariant-loop-name
invariant-loop-name l =
    (l.yielded ++ into_iter_items l.name-iterator ≡ l.fn.names.items)
    × (string_bytes l.out
    ≡ string_bytes l.fn.out ++ flat_map (name_lines l.fn.headers) (map (λ n. n.now) l.yielded))
