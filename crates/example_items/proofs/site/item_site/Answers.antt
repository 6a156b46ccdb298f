use Rattle.std.proofs.Common.{List, refl, subst}
use Rattle.web_request.specs.Head.{head_path}
use Rattle.web_worker.proofs.ExchangeLawLemmas.{on_ok}
use Rattle.web_routing.specs.RoutedPaths.{routed, with_parameters}
use Rattle.web_routing.specs.RouteTables.{AddedAll, RefusesOneOf, RouteRow, empty_table}
use Rattle.web_routing.proofs.ServiceLawLemmas.{once_whole}
use Rattle.example_items.specs.ItemSites.{item_route}
use Rattle.example_items.proofs.ItemRefusalLemmas.{refusal_lacks_memory}
use Rattle.example_items.proofs.ItemRouteLemmas.{table_routes}
use Rattle.example_items.proofs.SiteLemmas.{by_routed, on_err, three_rows}
use Rattle.example_items.proofs.site.item_site.Goals as goal

pub returns-clause-replies : goal.returns-clause-replies
returns-clause-replies g c =
    let rows = three_rows c.new-list.result.method c.new-list.result.pattern
    c.new-show.result.method c.new-show.result.pattern c.new-note.result.method
    c.new-note.result.pattern c.new-list.ensures.method c.new-list.ensures.pattern
    c.new-show.ensures.method c.new-show.ensures.pattern c.new-note.ensures.method
    c.new-note.ensures.pattern in
    on_ok c.new-4.result _ _
    (λ site added q m. by_routed q.head.headers m _ _ _
    (λ params. once_whole _ _ _ (once_whole _ _ _
    (c.list_items_law.ensures (with_parameters params q) m)))
    (λ params. once_whole _ _ _ (once_whole _ _ _
    (c.show_item_law.ensures (with_parameters params q) m)))
    (λ params. once_whole _ _ _ (once_whole _ _ _
    (c.note_item_law.ensures (with_parameters params q) m)))
    q refl _ (once_whole _ _ _ (c.no_item_law.ensures q m))
    (routed site.table q) (item_route q.head.method (head_path q.head))
    (table_routes site.table
    (subst (λ (rs : List RouteRow). AddedAll rs empty_table site.table) rows added)
    q.head.method (head_path q.head)))
    c.new-4.ensures.table

pub returns-clause-refused : goal.returns-clause-refused
returns-clause-refused g c =
    let rows = three_rows c.new-list.result.method c.new-list.result.pattern
    c.new-show.result.method c.new-show.result.pattern c.new-note.result.method
    c.new-note.result.pattern c.new-list.ensures.method c.new-list.ensures.pattern
    c.new-show.ensures.method c.new-show.ensures.pattern c.new-note.ensures.method
    c.new-note.ensures.pattern in
    on_err c.new-4.result _ _
    (λ e refused. refusal_lacks_memory e
    (subst (λ (rs : List RouteRow). RefusesOneOf rs empty_table e) rows refused))
    c.new-4.ensures.refused
