-- Why a route is refused, from the resource that it is added to.
use Rattle.std.proofs.Common.{◌≡◌, ℕ, List}
use Rattle.std.specs.Prelude.{Some, slice_get}
use Rattle.std.specs.List.{All}
use Rattle.web_routing.specs.RoutedPaths.{ResourceView, TableView}
use Rattle.web_routing.specs.RouteTables.{HasPattern, RefusesMethod, RefusesPattern, RefusesRoute}
use Rattle.web_routing.specs.declared.route_table.RouteError.{RouteError}
use Rattle.web_routing.specs.declared.route_table.RouteError.TheVariants.{Pattern, NotAscii}
use Rattle.web_routing.specs.declared.route_table.RouteError.TheVariants.{Twice, NoMemory}

-- why a route of a pattern that has routes is refused
pub by_method : (method pattern : List ℕ) (old : TableView) (k : ℕ) (r : ResourceView)
    → slice_get old.resources k ≡ Some r → HasPattern pattern r → (e : RouteError)
    → RefusesMethod method r e → RefusesRoute method pattern old e
by_method method pattern old k r there is (Pattern e) h = absurd h
by_method method pattern old k r there is NotAscii h = absurd h
by_method method pattern old k r there is Twice h = (k, r, there, is, h)
by_method method pattern old k r there is NoMemory h = tt

-- why the first route of a pattern is refused
pub by_pattern : (method pattern : List ℕ) (old : TableView)
    → All (λ (r : ResourceView). HasPattern pattern r → ⊥) old.resources → (e : RouteError)
    → RefusesPattern pattern old e → RefusesRoute method pattern old e
by_pattern method pattern old none (Pattern e) h = (none, h)
by_pattern method pattern old none NotAscii h = (none, h)
by_pattern method pattern old none Twice h = absurd h
by_pattern method pattern old none NoMemory h = tt
