-- Where a path leads, by the walk over the two patterns.
use Rattle.std.proofs.Common.{◌≡◌, ℕ, zero, suc, ◌<◌, refl, ap, ◌∙◌, arith, cond, nat_eq}
use Rattle.std.proofs.lemmas.Bool.Decides.{nat_tests}
use Rattle.std.specs.Prelude.{List, [], ◌∷◌, ◌++◌, ◌&&◌, ◌==◌, Bool, true, false, not, codes}
use Rattle.std.specs.Prelude.{Option, None, Some, drop, length, nat_lt}
use Rattle.std.specs.List.{starts_with}
use Rattle.std.specs.Str.{bytes_eq}
use Rattle.matchit.specs.Level.{IsText}
use Rattle.matchit.specs.Router.{RouteOf, rename, map_key}
use Rattle.matchit.specs.Rows.{Rows, prepend, ends}
use Rattle.matchit.specs.Seek.{seek, first, has_slash, after_param}
use Rattle.matchit.proofs.SeekLemmas.{first-prefix, seek-empty, or_else-none}
use Rattle.matchit.proofs.ParamLemmas.{after_param-end, after_param-stop}
use Rattle.matchit.proofs.RenameLemmas.{first-rename}
use Rattle.web_routing.specs.RoutedPaths.{is_ascii}
use Rattle.example_items.specs.ItemSites.{is_segment}
use Rattle.example_items.proofs.ItemTableLemmas.{home, item}

-- the rows by their places
abbrev id_row : Rows
id_row = (256 ∷ [], 1) ∷ []

abbrev below_slash : Rows
below_slash = (codes "items/" ++ 256 ∷ [], 1) ∷ ([], 0) ∷ []

abbrev pub site_rows : Rows
site_rows = (codes "/items/" ++ 256 ∷ [], 1) ∷ (codes "/", 0) ∷ []

abbrev pub place_route : ℕ → RouteOf ℕ
place_route zero = home
place_route (suc n) = item

-- ---- tests

pub head_small : (b : ℕ) (p : List ℕ) → is_ascii (b ∷ p) ≡ true → b < 128
head_small b p h = by (nat_lt b 128) refl h
  where
    by : (v : Bool) → nat_lt b 128 ≡ v → (v && is_ascii p) ≡ true → b < 128
    by true e h = grind (arith, nat_tests)
    by false e h = absurd cc

pub tail_ascii : (b : ℕ) (p : List ℕ) → is_ascii (b ∷ p) ≡ true → is_ascii p ≡ true
tail_ascii b p h = by (nat_lt b 128) h
  where
    by : (v : Bool) → (v && is_ascii p) ≡ true → is_ascii p ≡ true
    by true h = h
    by false h = absurd cc

rest_ascii : (n : ℕ) (p : List ℕ) → is_ascii p ≡ true → is_ascii (drop n p) ≡ true
rest_ascii zero p h = h
rest_ascii (suc n) [] h = h
rest_ascii (suc n) (b ∷ p) h = rest_ascii n p (tail_ascii b p h)

cond_both : (a b : Bool) (x : Option ℕ) → cond a (cond b x None) None ≡ cond (a && b) x None
cond_both true b x = refl
cond_both false b x = refl

-- ---- the walk

-- one segment, whose first byte is no token
by_slash : (b : ℕ) (p : List ℕ) (slash : Bool) → has_slash (b ∷ p) ≡ slash
    → after_param (ends (Some 1)) (b ∷ p) ≡ cond (not slash) (Some 1) None
by_slash b p true is = after_param-stop [] (Some 1) b p refl is
by_slash b p false is = after_param-end [] (Some 1) b p tt refl is

id_found : (p : List ℕ) → is_ascii p ≡ true → first id_row p ≡ cond (is_segment p) (Some 1) None
unfolding seek
id_found [] h = refl
id_found (b ∷ p) h =
    let small : b < 128 = head_small b p h in
    let no : (256 == b) ≡ false = grind (arith, nat_tests) in
    let some : nat_lt 0 (length (b ∷ p)) ≡ true = grind (arith, nat_tests) in
    rw (no, some, seek-empty 0 p, or_else-none) (by_slash b p (has_slash (b ∷ p)) refl)

items_text : IsText (codes "items/")
items_text = (
  omega arith,
  (
    omega arith,
    (
      omega arith,
      (omega arith, (omega arith, (omega arith, tt))),
    ),
  ),
)

item_found : (p : List ℕ) → is_ascii p ≡ true
    → first (prepend (codes "items/") id_row) p
    ≡ cond (starts_with nat_eq p (codes "items/") && is_segment (drop 6 p)) (Some 1) None
item_found p h =
    first-prefix (codes "items/") id_row p items_text
    ∙ (ap (λ x. cond (starts_with nat_eq p (codes "items/")) x None)
    (id_found (drop 6 p) (rest_ascii 6 p h))
    ∙ cond_both (starts_with nat_eq p (codes "items/")) (is_segment (drop 6 p)) (Some 1))

-- what is found behind the first slash
abbrev behind : List ℕ → Option ℕ
behind p =
    cond (bytes_eq p []) (Some 0)
    (cond (starts_with nat_eq p (codes "items/") && is_segment (drop 6 p)) (Some 1) None)

behind_found : (p : List ℕ) → is_ascii p ≡ true → first below_slash p ≡ behind p
unfolding seek
behind_found [] h = refl
behind_found (b ∷ p) h = item_found (b ∷ p) h

-- the place of the pattern that a path matches
abbrev pub place_of : List ℕ → Option ℕ
place_of path =
    cond (bytes_eq path (codes "/")) (Some 0)
    (cond (starts_with nat_eq path (codes "/items/") && is_segment (drop 7 path)) (Some 1) None)

slash_found : (path : List ℕ) → is_ascii path ≡ true
    → cond (starts_with nat_eq path (codes "/")) (first below_slash (drop 1 path)) None
    ≡ place_of path
slash_found [] h = refl
slash_found (b ∷ p) h = by (47 == b) (b == 47) refl refl
  where
    by : (u v : Bool) → (47 == b) ≡ u → (b == 47) ≡ v
        → cond (starts_with nat_eq (b ∷ p) (codes "/")) (first below_slash p) None
        ≡ place_of (b ∷ p)
    by true true e f = rw (e, f) (behind_found p (tail_ascii b p h))
    by false false e f = rw (e, f) refl
    by true false e f = absurd (grind (arith, nat_tests))
    by false true e f = absurd (grind (arith, nat_tests))

slash_text : IsText (codes "/")
slash_text = (omega arith, tt)

pub path_found : (path : List ℕ) → is_ascii path ≡ true
    → first (rename place_route site_rows) path ≡ map_key place_route (place_of path)
path_found path h =
    first-rename place_route site_rows path
    ∙ ap (λ k. map_key place_route k)
    (first-prefix (codes "/") below_slash path slash_text ∙ slash_found path h)
