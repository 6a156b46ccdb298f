-- No route of the site is refused unless an allocation fails.
use Rattle.std.proofs.Common.{◌≡◌, ℕ, zero, suc, refl, ◌∙◌, arith}
use Rattle.std.specs.Prelude.{List, [], ◌∷◌, ◌++◌, codes, Some, None, slice_get, true}
use Rattle.std.specs.Str.{IsAscii}
use Rattle.matchit.specs.Route.{scan}
use Rattle.matchit.specs.declared.error.InsertError.TheVariants.{Conflict, InvalidCatchAll}
use Rattle.matchit.specs.declared.error.InsertError.TheVariants.{InvalidParam, InvalidParamSegment}
use Rattle.matchit.specs.declared.error.InsertError.TheVariants.{OutOfMemory}
use Rattle.web_routing.specs.RoutedPaths.{ResourceView, TableView, is_ascii, route_of}
use Rattle.web_routing.specs.RouteTables.{AddedAll, HasPattern, RefusesOneOf, RefusesRoute}
use Rattle.web_routing.specs.RouteTables.{RouteRow}
use Rattle.web_routing.specs.RouteTables.{empty_table}
use Rattle.web_routing.specs.declared.route_table.RefusedRoute.{RefusedRoute}
use Rattle.web_routing.specs.declared.route_table.RouteError.{RouteError}
use Rattle.web_routing.specs.declared.route_table.RouteError.TheVariants.{Pattern, NotAscii}
use Rattle.web_routing.specs.declared.route_table.RouteError.TheVariants.{Twice, NoMemory}
use Rattle.example_items.specs.ItemSites.{LacksMemory, numbered}
use Rattle.example_items.proofs.ItemPathLemmas.{head_small, tail_ascii}
use Rattle.example_items.proofs.ItemTableLemmas.{first_route, home_resource, item_resource}
use Rattle.example_items.proofs.ItemTableLemmas.{item_rows, no_item, one_route, row, second_route}
use Rattle.example_items.proofs.ItemTableLemmas.{two_routes}

abbrev get_row : RouteRow
get_row = row (codes "GET") (codes "/")

abbrev show_row : RouteRow
show_row = row (codes "GET") (codes "/items/{id}")

abbrev note_row : RouteRow
note_row = row (codes "POST") (codes "/items/{id}")

small : (xs : List ℕ) → is_ascii xs ≡ true → IsAscii xs
small [] h i = omega arith
small (x ∷ xs) h zero = head_small x xs h
small (x ∷ xs) h (suc i) = small xs (tail_ascii x xs h) i

first_refused : (e : RouteError) → RefusesRoute (codes "GET") (codes "/") empty_table e
    → LacksMemory e
unfolding scan
first_refused NoMemory h = tt
first_refused NotAscii h = h.1 (small (codes "/") refl)
first_refused Twice h = let none = h.2 in absurd cc
first_refused (Pattern OutOfMemory) h = tt
first_refused (Pattern (Conflict with)) h = let none = h.1.1.1 in absurd cc
first_refused (Pattern InvalidParamSegment) h = h.1.1
first_refused (Pattern InvalidParam) h = h.1.1
first_refused (Pattern InvalidCatchAll) h = h.1.1

second_refused : (e : RouteError) → RefusesRoute (codes "GET") (codes "/items/{id}") one_route e
    → LacksMemory e
unfolding scan
second_refused NoMemory h = tt
second_refused NotAscii h = h.1 (small (codes "/items/{id}") refl)
second_refused Twice h = no_item h.0 h.1 h.2 h.3
second_refused (Pattern OutOfMemory) h = tt
second_refused (Pattern (Conflict with)) h = let none = h.1.1.1 in absurd cc
second_refused (Pattern InvalidParamSegment) h = h.1.1
second_refused (Pattern InvalidParam) h = h.1.1
second_refused (Pattern InvalidCatchAll) h = h.1.1

no_second : (k : ℕ) (r : ResourceView) → slice_get two_routes.resources k ≡ Some r
    → HasPattern (codes "/items/{id}") r → (route_of r.routes (codes "POST") ≡ None → ⊥) → ⊥
no_second zero r there is taken = no_item zero r there is
no_second (suc zero) r there is taken =
    let same : item_resource (numbered (codes "GET") 1 ∷ []) ≡ r = cc in taken (rw (← same) refl)
no_second (suc (suc k)) r there is taken = absurd cc

third_refused : (e : RouteError) → RefusesRoute (codes "POST") (codes "/items/{id}") two_routes e
    → LacksMemory e
third_refused NoMemory h = tt
third_refused NotAscii h = absurd (h.0 1 home_resource (omega arith) refl)
third_refused Twice h = no_second h.0 h.1 h.2 h.3 h.4
third_refused (Pattern e) h = absurd (h.0 1 home_resource (omega arith) refl)

no_fourth : (rs after : List RouteRow) (u : RouteRow) → [] ≡ rs ++ u ∷ after → ⊥
no_fourth [] after u h = absurd cc
no_fourth (r ∷ rs) after u h = absurd cc

refused_at : (u : RouteRow) (before after : List RouteRow) (t : TableView) (e : RouteError)
    → item_rows ≡ before ++ u ∷ after → AddedAll before empty_table t
    → RefusesRoute u.method u.pattern t e → LacksMemory e
refused_at u [] after t e are added refused =
    let same : get_row ≡ u = cc in first_refused e (rw (added, ← same) at refused)
refused_at u (r ∷ []) after t e are (a, first, last) refused =
    let one : get_row ≡ r = cc in
    let same : show_row ≡ u = cc in
    let is : t ≡ one_route = last ∙ first_route a (rw (← one) at first) in
    second_refused e (rw (is, ← same) at refused)
refused_at u (r ∷ s ∷ []) after t e are (a, first, (b, second, last)) refused =
    let one : get_row ≡ r = cc in
    let two : show_row ≡ s = cc in
    let same : note_row ≡ u = cc in
    let at_one : a ≡ one_route = first_route a (rw (← one) at first) in
    let is : t ≡ two_routes = last ∙ second_route b (rw (at_one, ← two) at second) in
    third_refused e (rw (is, ← same) at refused)
refused_at u (r ∷ s ∷ w ∷ rs) after t e are added refused =
    let none : [] ≡ rs ++ u ∷ after = cc in absurd (no_fourth rs after u none)

pub refusal_lacks_memory : (e : RefusedRoute) → RefusesOneOf item_rows empty_table e → LacksMemory e.cause
refusal_lacks_memory e h = refused_at h.row h.before h.after h.table e.cause h.are h.added h.refused
