-- Routes that are added one after another.
use Rattle.std.proofs.Common.{◌≡◌, ℕ, refl, sym, ap, ◌∙◌, inl, inr}
use Rattle.std.specs.Prelude.{◌⊎◌, List, [], ◌∷◌, ◌++◌, Result, Ok, Err, IfErr, OnOk}
use Rattle.std.proofs.lemmas.List.{append_assoc}
use Rattle.web_routing.specs.RoutedPaths.{TableView}
use Rattle.web_routing.specs.RouteTables.{AddedAll, IsRefusal, RefusesOneOf, RefusesRoute}
use Rattle.web_routing.specs.RouteTables.{RouteRow}
use Rattle.web_routing.specs.declared.route_table.RefusedRoute.{RefusedRoute}
use Rattle.web_routing.specs.declared.route_table.RouteError.{RouteError}
use Rattle.web_routing.specs.declared.route_table.RouteError.TheVariants.{NoMemory}

added_both : (rs ss : List RouteRow) (a b c : TableView) → AddedAll rs a b → AddedAll ss b c
    → AddedAll (rs ++ ss) a c
added_both [] ss a b c e more = rw e at more
added_both (r ∷ rs) ss a b c h more = (h.0, h.1, added_both rs ss h.0 b c h.2 more)

caused_so : (method pattern : List ℕ) (a : TableView) (cause was : RouteError)
    → (cause ≡ NoMemory) ⊎ (cause ≡ was) → RefusesRoute method pattern a was
    → RefusesRoute method pattern a cause
caused_so method pattern a cause was (inl lacks) refused = rw lacks tt
caused_so method pattern a cause was (inr same) refused = rw same refused

-- the first route, and what is refused of it
pub refuses_first : (row : RouteRow) (a : TableView) (cause : RouteError) (e : RefusedRoute)
    → IsRefusal row.pattern cause e → RefusesRoute row.method row.pattern a cause
    → RefusesOneOf (row ∷ []) a e
refuses_first row a cause e is refused = record {
  before = [];
  row = row;
  after = [];
  are = refl;
  table = a;
  added = refl;
  pattern = is.named;
  refused = caused_so row.method row.pattern a e.cause cause is.caused refused;
}

-- one of the routes behind those that were added
refuses_behind : (rs ss : List RouteRow) (a b : TableView) (e : RefusedRoute)
    → AddedAll rs a b → RefusesOneOf ss b e → RefusesOneOf (rs ++ ss) a e
refuses_behind rs ss a b e added h = record {
  before = rs ++ h.before;
  row = h.row;
  after = h.after;
  are = ap (λ t. rs ++ t) h.are ∙ sym (append_assoc rs h.before (h.row ∷ h.after));
  table = h.table;
  added = added_both rs h.before a b h.table added h.added;
  pattern = h.pattern;
  refused = h.refused;
}

on_ok : {A E : Type 0} (r : Result A E) (P Q : Type 0) → (P → Q) → OnOk r P → OnOk r Q
on_ok (Ok x) P Q f h = f h
on_ok (Err e) P Q f h = h

if_err : {A E : Type 0} (r : Result A E) (P Q : E → Type 0) → ((e : E) → P e → Q e) → IfErr r P
    → IfErr r Q
if_err (Ok x) P Q f h = h
if_err (Err e) P Q f h = f e h

-- the routes of two trees, of which the first ones were added
pub pair_added : {A E : Type 0} (r : Result A E) (rs ss : List RouteRow) (a b c : TableView)
    → AddedAll rs a b → OnOk r (AddedAll ss b c) → OnOk r (AddedAll (rs ++ ss) a c)
pair_added r rs ss a b c first = on_ok r _ _ (added_both rs ss a b c first)

pub pair_refused : {A : Type 0} (r : Result A RefusedRoute) (rs ss : List RouteRow)
    (a b : TableView) → AddedAll rs a b → IfErr r (RefusesOneOf ss b)
    → IfErr r (RefusesOneOf (rs ++ ss) a)
pair_refused r rs ss a b first = if_err r _ _ (λ e. refuses_behind rs ss a b e first)
