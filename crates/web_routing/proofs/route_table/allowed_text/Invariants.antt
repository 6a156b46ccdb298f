use Rattle.std.proofs.Common.{◌≡◌, ◌++◌, drop}
use Rattle.std.specs.String.{string_bytes}
use Rattle.web_routing.specs.RoutedPaths.{method_names}
use Rattle.web_routing.proofs.route_table.allowed_text.Given as goal

abbrev pub invariant-loop-route : goal.invariant-loop-route
invariant-loop-route l =
    string_bytes l.text ++ method_names (drop l.route-index l.routes) ≡ method_names l.routes
