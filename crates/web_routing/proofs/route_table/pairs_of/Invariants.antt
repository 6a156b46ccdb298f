use Rattle.std.proofs.Common.{◌≡◌, ◌++◌}
use Rattle.matchit.specs.Params.{AllText}
use Rattle.web_routing.specs.RoutedPaths.{of_pairs}
use Rattle.web_routing.specs.RouteTables.{walked}
use Rattle.web_routing.proofs.route_table.pairs_of.Given as goal

abbrev pub invariant-loop-name : goal.invariant-loop-name
invariant-loop-name l = record {
  can_next : (goal.iterator-loop-name).can_next l.name-iterator;
  is_finite : (goal.iterator-loop-name).is_finite l.name-iterator;
  taken : AllText (walked l.params) → AllText l.name-iterator
      × (l.pairs.items ++ of_pairs l.name-iterator ≡ of_pairs (walked l.params));
}
