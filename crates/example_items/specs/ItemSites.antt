-- The site of the three routes: where a request goes, and its one reply.
use Rattle.std.specs.Prelude.{ℕ, zero, suc, ◌&&◌, Bool, not, List, [], ◌∷◌, Option, None, Some}
use Rattle.std.specs.Prelude.{codes, drop, if◌then◌else◌, length, nat_eq, nat_lt, ⊤}
use Rattle.std.specs.List.{starts_with}
use Rattle.std.specs.Str.{bytes_eq}
use Rattle.matchit.specs.Seek.{has_slash}
use Rattle.matchit.specs.declared.error.InsertError.TheVariants.{Conflict, InvalidCatchAll}
use Rattle.matchit.specs.declared.error.InsertError.TheVariants.{InvalidParam, InvalidParamSegment}
use Rattle.matchit.specs.declared.error.InsertError.TheVariants.{OutOfMemory}
use Rattle.http_header.specs.FieldValue.{FieldValue}
use Rattle.http_header.specs.HeaderMap.{Entries}
use Rattle.web_texts.specs.Pairs.{Pair}
use Rattle.web_request.specs.declared.source.Mark.{Mark}
use Rattle.web_request.specs.Head.{head_path}
use Rattle.web_request.specs.Request.{Request}
use Rattle.web_reply.specs.Responders.{empty_reply}
use Rattle.web_routing.specs.RoutedPaths.{RoutedTo, RoutedTo.ToMethods, RoutedTo.ToOther}
use Rattle.web_routing.specs.RoutedPaths.{RoutedTo.ToRoute, is_ascii, methods_reply, served_by}
use Rattle.web_routing.specs.declared.route_table.MethodRoute.{MethodRoute}
use Rattle.web_routing.specs.declared.route_table.RouteError.{RouteError}
use Rattle.web_routing.specs.declared.route_table.RouteError.TheVariants.{NotAscii, NoMemory}
use Rattle.web_routing.specs.declared.route_table.RouteError.TheVariants.{Pattern, Twice}
use Rattle.example_items.specs.ItemReplies.{DelayedReply, list_reply, note_reply, reply_now}
use Rattle.example_items.specs.ItemReplies.{show_reply}

abbrev pub numbered : List ℕ → ℕ → MethodRoute
numbered method number = record { method = method; number = number }

-- the methods of each path, with the numbers of their routes
abbrev pub home_routes : List MethodRoute
home_routes = numbered (codes "GET") 0 ∷ []

abbrev pub item_routes : List MethodRoute
item_routes = numbered (codes "GET") 1 ∷ numbered (codes "POST") 2 ∷ []

-- one segment of a path
abbrev pub is_segment : List ℕ → Bool
is_segment text = nat_lt 0 (length text) && not (has_slash text)

-- the route of this number, if there is one, else the methods of the path
abbrev pub one_of : List MethodRoute → List Pair → Option ℕ → RoutedTo
one_of rs params (Some n) = ToRoute n params
one_of rs params None = ToMethods rs

-- Where this method and this path go: `/`, or `/items/` and one segment, which is the id. HEAD goes
-- where GET does.
abbrev pub item_route : List ℕ → List ℕ → RoutedTo
item_route method path =
    if bytes_eq path (codes "/") then one_of home_routes [] (served_by home_routes method)
    else if is_ascii path && starts_with nat_eq path (codes "/items/") && is_segment (drop 7 path)
    then one_of item_routes (record { name = codes "id"; value = drop 7 path } ∷ [])
    (served_by item_routes method)
    else ToOther

-- the reply of the route of this number
abbrev pub route_reply : ℕ → List Pair → Entries FieldValue → List Mark → DelayedReply
route_reply zero params headers m = list_reply
route_reply (suc zero) params headers m = show_reply params
route_reply (suc (suc n)) params headers m = note_reply params headers m

-- the reply to a request whose body has these marks, from where it goes
abbrev pub reply_to : {L D C : Type 0} → RoutedTo → Request L D C → List Mark → DelayedReply
reply_to (ToRoute n params) q m = route_reply n params q.head.headers m
reply_to (ToMethods rs) q m = reply_now (methods_reply q.head.method rs)
reply_to ToOther q m = reply_now (empty_reply 404)

-- the one reply of the site
abbrev pub item_reply : {L D C : Type 0} → Request L D C → List Mark → DelayedReply
item_reply q m = reply_to (item_route q.head.method (head_path q.head)) q m

-- an allocation failed
abbrev pub LacksMemory : RouteError → Type 0
LacksMemory NoMemory = ⊤
LacksMemory (Pattern OutOfMemory) = ⊤
LacksMemory (Pattern (Conflict with)) = ⊥
LacksMemory (Pattern InvalidParamSegment) = ⊥
LacksMemory (Pattern InvalidParam) = ⊥
LacksMemory (Pattern InvalidCatchAll) = ⊥
LacksMemory NotAscii = ⊥
LacksMemory Twice = ⊥
