use Rattle.std.proofs.Common.{◌≡◌, drop}
use Rattle.web_routing.specs.RoutedPaths.{route_of}
use Rattle.web_routing.proofs.route_table.route_of.Given as goal

abbrev pub invariant-loop-route : goal.invariant-loop-route
invariant-loop-route l =
    route_of (drop l.route-index l.routes) l.method ≡ route_of l.routes l.method
