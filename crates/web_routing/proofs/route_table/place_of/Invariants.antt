use Rattle.std.proofs.Common.{◌≡◌, take}
use Rattle.std.specs.List.{All}
use Rattle.web_routing.specs.RouteTables.{HasPattern}
use Rattle.web_routing.proofs.route_table.place_of.Given as goal

abbrev pub invariant-loop-resource : goal.invariant-loop-resource
invariant-loop-resource l = record {
  place : l.place ≡ l.resource-index;
  none : All (λ r. HasPattern l.pattern r → ⊥) (take l.resource-index l.resources);
}
