-- The table of the three routes, added one after another.
use Rattle.std.proofs.Common.{◌≡◌, ℕ, zero, suc, refl, ap, ◌∙◌, inl, inr, arith, subst}
use Rattle.std.specs.Prelude.{List, [], ◌∷◌, ◌++◌, codes, Some, slice_get, slice_set}
use Rattle.matchit.specs.Route.{scan}
use Rattle.matchit.specs.Router.{RouteOf}
use Rattle.matchit.specs.Rows.{RowsOf}
use Rattle.web_routing.specs.RoutedPaths.{ResourceView, TableView}
use Rattle.web_routing.specs.RouteTables.{Added, AddedAll, AddsRoute, HasPattern, RouteRow}
use Rattle.web_routing.specs.RouteTables.{empty_table}
use Rattle.web_routing.specs.declared.route_table.MethodRoute.{MethodRoute}
use Rattle.example_items.specs.ItemSites.{home_routes, item_routes, numbered}

-- the methods and the patterns of the routes
abbrev pub row : List ℕ → List ℕ → RouteRow
row method pattern = record { method = method; pattern = pattern }

abbrev pub item_rows : List RouteRow
item_rows =
    row (codes "GET") (codes "/") ∷ row (codes "GET") (codes "/items/{id}")
    ∷ row (codes "POST") (codes "/items/{id}") ∷ []

-- what `matchit` keeps of the two patterns
abbrev pub home : RouteOf ℕ
home = record { pattern = codes "/"; text = codes "/"; names = []; value = 0 }

abbrev pub item_pattern : List ℕ
item_pattern = codes "/items/" ++ 256 ∷ []

abbrev pub item : RouteOf ℕ
item = record {
  pattern = item_pattern;
  text = codes "/items/{id}";
  names = (8, 10) ∷ [];
  value = 1;
}

abbrev pub home_resource : ResourceView
home_resource = record { pattern = codes "/"; routes = home_routes }

abbrev pub item_resource : List MethodRoute → ResourceView
item_resource routes = record { pattern = codes "/items/{id}"; routes = routes }

abbrev pub one_route : TableView
one_route = record { patterns = (codes "/", home) ∷ []; resources = home_resource ∷ []; count = 1 }

abbrev pub two_routes : TableView
two_routes = record {
  patterns = (item_pattern, item) ∷ (codes "/", home) ∷ [];
  resources = home_resource ∷ item_resource (numbered (codes "GET") 1 ∷ []) ∷ [];
  count = 2;
}

abbrev pub item_table : TableView
item_table = record {
  patterns = (item_pattern, item) ∷ (codes "/", home) ∷ [];
  resources = home_resource ∷ item_resource item_routes ∷ [];
  count = 3;
}

same_table : (t : TableView) (p : RowsOf (RouteOf ℕ)) (r : List ResourceView) (c : ℕ)
    → t.patterns ≡ p → t.resources ≡ r → t.count ≡ c
    → t ≡ record { patterns = p; resources = r; count = c }
same_table t p r c is_p is_r is_c = rw (← is_p, ← is_r, ← is_c) refl

pub first_route : (t : TableView) → Added (codes "GET") (codes "/") empty_table t → t ≡ one_route
unfolding scan
first_route t (count, inl adds) = let no = adds.there in absurd cc
first_route t (count, inr (none, adds)) = same_table t _ _ _ adds.patterns.1 adds.resources count

pub no_item : (k : ℕ) (before : ResourceView) → slice_get (home_resource ∷ []) k ≡ Some before
    → HasPattern (codes "/items/{id}") before → ⊥
no_item zero before there is =
    let same : home_resource ≡ before = cc in
    let no : codes "/" ≡ codes "/items/{id}" = ap (λ r. r.pattern) same ∙ is in absurd cc
no_item (suc k) before there is = absurd cc

pub second_route : (t : TableView) → Added (codes "GET") (codes "/items/{id}") one_route t
    → t ≡ two_routes
unfolding scan
second_route t (count, inl adds) = absurd (no_item adds.place adds.before adds.there adds.is)
second_route t (count, inr (none, adds)) = same_table t _ _ _ adds.patterns.1 adds.resources count

one_more : (k : ℕ) (before after : ResourceView) → slice_get two_routes.resources k ≡ Some before
    → HasPattern (codes "/items/{id}") before → AddsRoute (numbered (codes "POST") 2) before after
    → slice_set two_routes.resources k after ≡ item_table.resources
one_more zero before after there is adds = absurd (no_item zero before there is)
one_more (suc zero) before after there is adds =
    let same : item_resource (numbered (codes "GET") 1 ∷ []) ≡ before = cc in
    rw (adds.1, ← same) refl
one_more (suc (suc k)) before after there is adds = absurd cc

third_route : (t : TableView) → Added (codes "POST") (codes "/items/{id}") two_routes t
    → t ≡ item_table
third_route t (count, inl adds) =
    same_table t _ _ _ adds.patterns
    (adds.resources ∙ one_more adds.place adds.before adds.after adds.there adds.is adds.adds) count
third_route t (count, inr (none, adds)) = absurd (none 1 home_resource (omega arith) refl)

pub table_is : (t : TableView) → AddedAll item_rows empty_table t → t ≡ item_table
table_is t (a, first, (b, second, (c, third, last))) =
    let one : a ≡ one_route = first_route a first in
    let two : b ≡ two_routes =
    second_route b
    (subst (λ (s : TableView). Added (codes "GET") (codes "/items/{id}") s b) one second) in
    let three : c ≡ item_table =
    third_route c
    (subst (λ (s : TableView). Added (codes "POST") (codes "/items/{id}") s c) two third) in
    last ∙ three
