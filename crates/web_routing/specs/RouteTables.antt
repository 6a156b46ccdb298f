-- How a table of routes grows.
use Rattle.std.specs.Prelude.{◌≡◌, ◌≢◌, ◌+◌, ◌⊎◌, ℕ, List, [], ◌∷◌, ◌++◌, Option, None, Some, Ok, Err, ⊤}
use Rattle.std.specs.Prelude.{length, string_bytes}
use Rattle.std.specs.Prelude.{slice_get, slice_set}
use Rattle.std.specs.List.{All}
use Rattle.std.specs.Str.{IsAscii}
use Rattle.matchit.specs.Params.{walk}
use Rattle.matchit.specs.Route.{parse_route}
use Rattle.matchit.specs.Router.{InsertsRead, RouteOf}
use Rattle.matchit.specs.Rows.{RowsOf}
use Rattle.matchit.specs.declared.params.Params.{Params}
use Rattle.web_routing.specs.RoutedPaths.{ResourceView, TableView, route_of}
use Rattle.web_routing.specs.declared.route_table.MethodRoute.{MethodRoute}
use Rattle.web_routing.specs.declared.route_table.RefusedRoute.{RefusedRoute}
use Rattle.web_routing.specs.declared.route_table.RouteError.{RouteError}
use Rattle.web_routing.specs.declared.route_table.RouteError.TheVariants.{Pattern, NotAscii}
use Rattle.web_routing.specs.declared.route_table.RouteError.TheVariants.{Twice, NoMemory}

abbrev pub empty_table : TableView
empty_table = record { patterns = []; resources = []; count = 0 }

-- P, of what each row leads to
abbrev pub EachRow : {K : Type 0} → (K → Type 0) → RowsOf K → Type 0
EachRow P [] = ⊤
EachRow P (r ∷ rs) = P r.1 × EachRow P rs

-- the names of parameters are ASCII
abbrev pub AreAsciiRows : RowsOf (RouteOf ℕ) → Type 0
AreAsciiRows rows = EachRow (λ r. IsAscii r.text) rows

-- what the parameters of a match took
abbrev pub walked : Params → List (List ℕ × List ℕ)
walked p = walk p.pattern.now p.text.now p.path.now p.names.now 0 0

abbrev pub HasPattern : List ℕ → ResourceView → Type 0
HasPattern pattern r = r.pattern ≡ pattern

-- the place of a resource of this pattern, or None where there is none
abbrev pub PlaceOf : List ℕ → List ResourceView → Option ℕ → Type 0
PlaceOf pattern rs (Some k) = (r : ResourceView) × (slice_get rs k ≡ Some r) × HasPattern pattern r
PlaceOf pattern rs None = All (λ r. HasPattern pattern r → ⊥) rs

-- a route of a method that had none
abbrev pub AddsRoute : MethodRoute → ResourceView → ResourceView → Type 0
AddsRoute route old new =
    (route_of old.routes route.method ≡ None)
    × (new ≡ record old { routes = old.routes ++ route ∷ [] })

-- a route of a pattern that has routes
pub record AddsMethod (route : MethodRoute) (pattern : List ℕ) (old new : TableView) : Type 0 where
  pub place : ℕ
  pub before : ResourceView
  pub after : ResourceView
  pub there : slice_get old.resources place ≡ Some before
  pub is : HasPattern pattern before
  pub adds : AddsRoute route before after
  pub patterns : new.patterns ≡ old.patterns
  pub resources : new.resources ≡ slice_set old.resources place after

-- the first route of a pattern, which `matchit` takes
pub record AddsResource
    (route : MethodRoute) (pattern : List ℕ) (old new : TableView) : Type 0 where
  pub patterns : InsertsRead (parse_route pattern) (length old.resources) old.patterns new.patterns
      (Ok tt)
  pub resources : new.resources
      ≡ old.resources ++ record { pattern = pattern; routes = route ∷ [] } ∷ []
  pub count : new.count ≡ old.count

-- a route of this method and this pattern, which gets the next number
abbrev pub Added : List ℕ → List ℕ → TableView → TableView → Type 0
Added method pattern old new =
    (new.count ≡ old.count + 1)
    × (AddsMethod (record { method = method; number = old.count }) pattern old new
    ⊎ (All (λ r. HasPattern pattern r → ⊥) old.resources
    × AddsResource (record { method = method; number = old.count }) pattern old
    (record new { count = old.count })))

-- why a route of a pattern that has routes is refused: there is one of this method
abbrev pub RefusesMethod : List ℕ → ResourceView → RouteError → Type 0
RefusesMethod method old (Pattern e) = ⊥
RefusesMethod method old NotAscii = ⊥
RefusesMethod method old Twice = route_of old.routes method ≡ None → ⊥
RefusesMethod method old NoMemory = ⊤

-- why the first route of a pattern is refused: `matchit` refuses the pattern so, or it is not ASCII
abbrev pub RefusesPattern : List ℕ → TableView → RouteError → Type 0
RefusesPattern pattern old (Pattern e) =
    InsertsRead (parse_route pattern) (length old.resources) old.patterns old.patterns (Err e)
RefusesPattern pattern old NotAscii = IsAscii pattern → ⊥
RefusesPattern pattern old Twice = ⊥
RefusesPattern pattern old NoMemory = ⊤

-- why a route is refused; a failed allocation is the one cause that no clause names
abbrev pub RefusesRoute : List ℕ → List ℕ → TableView → RouteError → Type 0
RefusesRoute method pattern old (Pattern e) =
    All (λ r. HasPattern pattern r → ⊥) old.resources × RefusesPattern pattern old (Pattern e)
RefusesRoute method pattern old NotAscii =
    All (λ r. HasPattern pattern r → ⊥) old.resources × RefusesPattern pattern old NotAscii
RefusesRoute method pattern old Twice =
    (k : ℕ) × (r : ResourceView) × (slice_get old.resources k ≡ Some r) × HasPattern pattern r
    × RefusesMethod method r Twice
RefusesRoute method pattern old NoMemory = ⊤

-- ---- routes one after another

-- the method and the pattern of a route
pub record RouteRow : Type 0 where
  pub method : List ℕ
  pub pattern : List ℕ

-- these routes, added in their order
abbrev pub AddedAll : List RouteRow → TableView → TableView → Type 0
AddedAll [] old new = new ≡ old
AddedAll (r ∷ rs) old new = (t : TableView) × Added r.method r.pattern old t × AddedAll rs t new

-- The route of this pattern is refused for this cause, or there was no memory for its pattern.
pub record IsRefusal (pattern : List ℕ) (cause : RouteError) (e : RefusedRoute) : Type 0 where
  pub named : e.cause ≢ NoMemory → string_bytes e.pattern ≡ pattern
  pub caused : (e.cause ≡ NoMemory) ⊎ (e.cause ≡ cause)

-- one of these routes is refused, after those before it were added
pub record RefusesOneOf (rows : List RouteRow) (old : TableView) (e : RefusedRoute) : Type 0 where
  pub before : List RouteRow
  pub row : RouteRow
  pub after : List RouteRow
  pub are : rows ≡ before ++ row ∷ after
  pub table : TableView
  pub added : AddedAll before old table
  pub pattern : e.cause ≢ NoMemory → string_bytes e.pattern ≡ row.pattern
  pub refused : RefusesRoute row.method row.pattern table e.cause
