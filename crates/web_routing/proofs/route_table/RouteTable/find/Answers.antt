use Rattle.std.proofs.Common.{◌≡◌, ℕ, length, refl, rules}
use Rattle.std.specs.Prelude.{None, Some, slice_get}
use Rattle.std.proofs.lemmas.Option.{slice_get_read}
use Rattle.matchit.specs.Params.{AllText}
use Rattle.matchit.specs.Router.{RouteOf}
use Rattle.matchit.specs.Seek.{first}
use Rattle.web_routing.specs.RoutedPaths.{TableView, parameters, served_by}
use Rattle.web_routing.specs.RouteTables.{walked}
use Rattle.web_routing.proofs.RouteTableLemmas.{finds_methods, finds_route, first_ascii}
use Rattle.web_routing.proofs.RouteTableLemmas.{walked_text}
use Rattle.web_routing.proofs.route_table.RouteTable.find.Goals as goal

pub returns-in_ok-pairs_of-in-Some-served_by : goal.returns-in_ok-pairs_of-in-Some-served_by
returns-in_ok-pairs_of-in-Some-served_by c =
    let ascii = c.if-not-is_ascii.ensures.cases in
    let p = c.in-Ok.found.params in
    let r : RouteOf ℕ = record {
      pattern = p.pattern.now;
      text = p.text.now;
      names = p.names.now;
      value = c.in-Ok.found.value.now;
    } in
    let t : TableView = record {
      patterns = c.self.inside.patterns;
      resources = c.self.inside.resources.items;
      count = c.self.inside.count;
    } in
    let is : first t.patterns c.args.path.now ≡ Some r = c.in-Ok.ensures.found in
    let texts : AllText (walked p) =
    rw c.in-Ok.ensures.path
    (walked_text r.pattern r.text c.args.path.now r.names 0 0
    (first_ascii t.patterns c.args.path.now r c.self.invariant is) ascii) in
    let there : slice_get t.resources r.value ≡ Some c.in-Some.resource.now =
    rw c.deref.ensures.value at
    (slice_get_read c.deref.result.now (length c.deref.result.now) r.value c.in-Some.resource.now
    refl c.in-Some.ensures.lookup.3.0 c.in-Some.ensures.lookup.1) in
    let served : served_by c.in-Some.resource.now.routes c.args.method.now
    ≡ Some c.in-Some-served_by.number = search rules in
    let pairs : c.in_ok-pairs_of-in-Some-served_by.field-0.items ≡ parameters r c.args.path.now =
    rw c.in-Ok.ensures.path at (c.in_ok-pairs_of-in-Some-served_by.ensures texts) in
    rw (← c.self.view_is)
    (finds_route t c.args.method.now c.args.path.now r c.in-Some.resource.now
    c.in-Some-served_by.number c.in_ok-pairs_of-in-Some-served_by.field-0.items ascii is there
    served pairs)

pub returns-in-None : goal.returns-in-None
returns-in-None c =
    let ascii = c.if-not-is_ascii.ensures.cases in
    let p = c.in-Ok.found.params in
    let r : RouteOf ℕ = record {
      pattern = p.pattern.now;
      text = p.text.now;
      names = p.names.now;
      value = c.in-Ok.found.value.now;
    } in
    let t : TableView = record {
      patterns = c.self.inside.patterns;
      resources = c.self.inside.resources.items;
      count = c.self.inside.count;
    } in
    let is : first t.patterns c.args.path.now ≡ Some r = c.in-Ok.ensures.found in
    let there : slice_get t.resources r.value ≡ Some c.in-Some.resource.now =
    rw c.deref.ensures.value at
    (slice_get_read c.deref.result.now (length c.deref.result.now) r.value c.in-Some.resource.now
    refl c.in-Some.ensures.lookup.3.0 c.in-Some.ensures.lookup.1) in
    let served : served_by c.in-Some.resource.now.routes c.args.method.now ≡ None =
    search rules in
    rw (← c.self.view_is)
    (finds_methods t c.args.method.now c.args.path.now r c.in-Some.resource.now _ ascii is there
    served)
