use Rattle.std.proofs.Common.{◌≡◌, ◌++◌, flat_map, map}
use Rattle.std.specs.Vec.Iter.{into_iter_items}
use Rattle.cli_print.specs.HeaderLines.{name_lines}
use Rattle.cli_print.proofs.header_lines.put_names.Given as goal

abbrev pub invariant-loop-name : goal.invariant-loop-name
invariant-loop-name l =
    (l.yielded ++ into_iter_items l.name-iterator ≡ l.fn.names.items)
    × (l.out.items ≡ l.fn.out.items ++ flat_map (name_lines l.fn.headers) (map (λ n. n.now) l.yielded))
