-- Where the table of the site sends a method and a path.
use Rattle.std.proofs.Common.{◌≡◌, ℕ, ◌<◌, ◌-◌, refl, ap, ◌∙◌, arith, cond}
use Rattle.std.proofs.lemmas.Bool.Decides.{nat_tests}
use Rattle.std.proofs.lemmas.Slice.Eq.{bytes_eq-Decides}
use Rattle.std.proofs.lemmas.List.{length-drop}
use Rattle.std.specs.Prelude.{List, [], ◌∷◌, ◌&&◌, Bool, true, false, not, codes}
use Rattle.std.specs.Prelude.{Option, None, Some}
use Rattle.std.specs.Prelude.{drop, length, nat_lt, nat_le, nat_eq}
use Rattle.std.specs.List.{starts_with}
use Rattle.std.specs.Str.{bytes_eq}
use Rattle.matchit.specs.Params.{wild_from, wild_stop, part_of}
use Rattle.matchit.specs.Router.{map_key}
use Rattle.matchit.specs.Seek.{has_slash}
use Rattle.matchit.proofs.LevelLemmas.{take-rest}
use Rattle.web_texts.specs.Pairs.{Pair}
use Rattle.web_routing.specs.RoutedPaths.{RoutedTo, RoutedTo.ToOther, TableView, found_for}
use Rattle.web_routing.specs.RoutedPaths.{is_ascii, of_pattern, of_resource, parameters, served_by}
use Rattle.web_routing.specs.RouteTables.{AddedAll, empty_table}
use Rattle.example_items.specs.ItemSites.{home_routes, is_segment, item_route, item_routes, one_of}
use Rattle.example_items.proofs.ItemTableLemmas.{home, item, item_pattern, item_rows, item_table}
use Rattle.example_items.proofs.ItemTableLemmas.{table_is}
use Rattle.example_items.proofs.ItemPathLemmas.{path_found, place_route}

abbrev named_id : List ℕ → List Pair
named_id value = record { name = codes "id"; value = value } ∷ []

abbrev id_parameter : List ℕ → List Pair
id_parameter path = named_id (drop 7 path)

home_one : (path : List ℕ) (n : Option ℕ)
    → of_resource home path home_routes n ≡ one_of home_routes [] n
home_one path None = refl
home_one path (Some n) = refl

wild_at : (n : ℕ) → 7 < n → wild_from item_pattern n 0 0 ≡ (7, 7)
wild_at n h =
    let e0 : nat_lt 0 n ≡ true = grind (arith, nat_tests) in
    let e1 : nat_lt 1 n ≡ true = grind (arith, nat_tests) in
    let e2 : nat_lt 2 n ≡ true = grind (arith, nat_tests) in
    let e3 : nat_lt 3 n ≡ true = grind (arith, nat_tests) in
    let e4 : nat_lt 4 n ≡ true = grind (arith, nat_tests) in
    let e5 : nat_lt 5 n ≡ true = grind (arith, nat_tests) in
    let e6 : nat_lt 6 n ≡ true = grind (arith, nat_tests) in
    rw (e0, e1, e2, e3, e4, e5, e6) refl

rest_of : (path : List ℕ) → 7 < length path → part_of path 7 (length path) ≡ drop 7 path
rest_of path h =
    let low : nat_le 7 (length path) ≡ true = grind (arith, nat_tests) in
    let high : nat_le (length path) (length path) ≡ true = grind (arith, nat_tests) in
    rw (low, high) (take-rest path 7)

id_taken : (path : List ℕ) → 7 < length path → parameters item path ≡ id_parameter path
id_taken path h =
    ap (λ (w : ℕ × ℕ). named_id (part_of path w.1 (wild_stop item_pattern w.0 path w.1)))
    (wild_at (length path) h)
    ∙ ap named_id (rest_of path h)

item_one : (path : List ℕ) (n : Option ℕ) → 7 < length path
    → of_resource item path item_routes n ≡ one_of item_routes (id_parameter path) n
item_one path None h = refl
item_one path (Some n) h = ap (λ ps. RoutedTo.ToRoute n ps) (id_taken path h)

long_path : (path : List ℕ) → is_segment (drop 7 path) ≡ true → 7 < length path
long_path path h = by (nat_lt 0 (length (drop 7 path))) refl h
  where
    by : (v : Bool) → nat_lt 0 (length (drop 7 path)) ≡ v
        → (v && not (has_slash (drop 7 path))) ≡ true → 7 < length path
    by true e h =
        let some : 0 < length (drop 7 path) = grind (arith, nat_tests) in
        let same : length (drop 7 path) ≡ length path - 7 = length-drop 7 path in omega arith
    by false e h = absurd cc

module _ (method path : List ℕ) where
  abbrev resources_found : Option ℕ → RoutedTo
  resources_found k = of_pattern item_table.resources path method (map_key place_route k)

  by_item : (starts segment : Bool) → is_segment (drop 7 path) ≡ segment
      → resources_found (cond (starts && segment) (Some 1) None)
      ≡ cond (starts && segment)
      (one_of item_routes (id_parameter path) (served_by item_routes method)) ToOther
  by_item true true is = item_one path (served_by item_routes method) (long_path path is)
  by_item true false is = refl
  by_item false segment is = refl

  by_home : (same : Bool) → bytes_eq path (codes "/") ≡ same
      → resources_found (cond same (Some 0)
      (cond (starts_with nat_eq path (codes "/items/") && is_segment (drop 7 path)) (Some 1) None))
      ≡ cond same (one_of home_routes [] (served_by home_routes method))
      (cond (starts_with nat_eq path (codes "/items/") && is_segment (drop 7 path))
      (one_of item_routes (id_parameter path) (served_by item_routes method)) ToOther)
  by_home true is = home_one path (served_by home_routes method)
  by_home false is =
      by_item (starts_with nat_eq path (codes "/items/")) (is_segment (drop 7 path)) refl

  no_home : (same : Bool) → bytes_eq path (codes "/") ≡ same → is_ascii path ≡ false
      → ToOther ≡ cond same (one_of home_routes [] (served_by home_routes method)) ToOther
  no_home true is other =
      let path_is : path ≡ codes "/" = (bytes_eq-Decides path (codes "/")).0 is in
      let yes : is_ascii path ≡ true = rw path_is refl in absurd cc
  no_home false is other = refl

  by_ascii : (ascii : Bool) → is_ascii path ≡ ascii
      → found_for item_table method path ≡ item_route method path
  by_ascii true is =
      rw is (ap (λ k. of_pattern item_table.resources path method k) (path_found path is)
      ∙ by_home (bytes_eq path (codes "/")) refl)
  by_ascii false is = rw is (no_home (bytes_eq path (codes "/")) refl is)

pub table_routes : (t : TableView) → AddedAll item_rows empty_table t → (method path : List ℕ)
    → found_for t method path ≡ item_route method path
table_routes t is method path = rw (table_is t is) (by_ascii method path (is_ascii path) refl)
