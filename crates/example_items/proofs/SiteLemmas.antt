-- From the one reply of each route to that of the site.
use Rattle.std.proofs.Common.{◌≡◌, ℕ, zero, suc, ◌-◌, arith, refl}
use Rattle.std.proofs.lemmas.Bool.Decides.{nat_tests}
use Rattle.std.specs.Prelude.{List, [], ◌∷◌, Result, Ok, Err, IfErr, codes, nat_lt, false}
use Rattle.http_header.specs.FieldValue.{FieldValue}
use Rattle.http_header.specs.HeaderMap.{Entries}
use Rattle.web_texts.specs.Pairs.{Pair}
use Rattle.web_request.specs.declared.source.Mark.{Mark}
use Rattle.web_request.specs.Request.{Request}
use Rattle.web_reply.specs.Responders.{empty_reply}
use Rattle.web_worker.specs.ServicePromises.{Promise}
use Rattle.web_routing.specs.RoutedPaths.{RoutedTo, RoutedTo.ToMethods, RoutedTo.ToOther}
use Rattle.web_routing.specs.RoutedPaths.{RoutedTo.ToRoute, by_route, methods_promise}
use Rattle.web_routing.specs.ServiceRoutes.{chosen_promise}
use Rattle.example_items.specs.ItemReplies.{RepliesOnce, list_reply, note_reply, reply_now}
use Rattle.example_items.specs.ItemReplies.{show_reply}
use Rattle.example_items.specs.ItemSites.{reply_to, route_reply}
use Rattle.example_items.proofs.ItemTableLemmas.{item_rows, row}

module _ {V : Type 0} (headers : Entries FieldValue) (m : List Mark)
    (list : List Pair → Promise V) (show : List Pair → Promise V) (note : List Pair → Promise V)
    (lists : (params : List Pair) → RepliesOnce (list params) list_reply)
    (shows : (params : List Pair) → RepliesOnce (show params) (show_reply params))
    (notes : (params : List Pair) → RepliesOnce (note params) (note_reply params headers m)) where
  -- the service of this number
  abbrev pub route_promise : ℕ → List Pair → Promise V
  route_promise n params =
      chosen_promise (nat_lt n 1) (list params)
      (chosen_promise (nat_lt (n - 1) 1) (show params) (note params))

  by_number : (n : ℕ) (params : List Pair)
      → RepliesOnce (route_promise n params) (route_reply n params headers m)
  by_number zero params = lists params
  by_number (suc zero) params = shows params
  by_number (suc (suc n)) params =
      let below : nat_lt (suc (suc n)) 1 ≡ false = grind (arith, nat_tests) in
      let above : nat_lt (suc (suc n) - 1) 1 ≡ false = grind (arith, nat_tests) in
      rw (below, above) (notes params)

  module _ {L D C : Type 0} (q : Request L D C) (same : q.head.headers ≡ headers)
      (other : Promise V) (others : RepliesOnce other (reply_now (empty_reply 404))) where
    by_place : (to : RoutedTo)
        → RepliesOnce (by_route to route_promise (λ rs. methods_promise q.head.method rs) other)
        (reply_to to q m)
    by_place (ToRoute n params) = rw same (by_number n params)
    by_place (ToMethods rs) = record { once = λ k r g. g; comes = λ n h. h }
    by_place ToOther = others

    -- from where the table sends a request to its reply
    pub by_routed : (to goes : RoutedTo) → to ≡ goes
        → RepliesOnce (by_route to route_promise (λ rs. methods_promise q.head.method rs) other)
        (reply_to goes q m)
    by_routed to goes is = rw is (by_place goes)

-- routes that have these methods and patterns
pub three_rows : (m1 p1 m2 p2 m3 p3 : List ℕ) → m1 ≡ codes "GET" → p1 ≡ codes "/"
    → m2 ≡ codes "GET" → p2 ≡ codes "/items/{id}" → m3 ≡ codes "POST" → p3 ≡ codes "/items/{id}"
    → row m1 p1 ∷ row m2 p2 ∷ row m3 p3 ∷ [] ≡ item_rows
three_rows m1 p1 m2 p2 m3 p3 e1 e2 e3 e4 e5 e6 = rw (e1, e2, e3, e4, e5, e6) refl

-- what is known of each error is known of the result
pub on_err : {T E : Type 0} (result : Result T E) (P Q : E → Type 0) → ((e : E) → P e → Q e)
    → IfErr result P → IfErr result Q
on_err (Ok x) P Q f h = tt
on_err (Err e) P Q f h = f e h
