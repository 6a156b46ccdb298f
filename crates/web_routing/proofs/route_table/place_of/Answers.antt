use Rattle.std.proofs.Common.{◌≡◌, ◌+◌, ap, refl, true, false, length, rules}
use Rattle.std.specs.Str.{bytes_eq}
use Rattle.std.proofs.lemmas.List.Elements.{All-more}
use Rattle.std.proofs.lemmas.Option.{slice_get_read}
use Rattle.std.proofs.lemmas.Slice.Eq.{bytes_eq-Decides}
use Rattle.web_routing.specs.RoutedPaths.{ResourceView}
use Rattle.web_routing.specs.RouteTables.{HasPattern}
use Rattle.web_routing.proofs.RouteTableLemmas.{all_taken}
use Rattle.web_routing.proofs.route_table.place_of.Goals as goal

pub returns-then-eq : goal.returns-then-eq
returns-then-eq c =
    let same : bytes_eq c.resource-item.result.pattern c.args.pattern.now ≡ true = search rules in (
      c.resource-item.result,
      rw c.loop-resource.invariant.place
          (slice_get_read c.args.resources.now (length c.args.resources.now)
          c.loop-resource.resource-index c.resource-item.result refl c.loop-resource-test.true
          c.resource-item.is),
      (bytes_eq-Decides c.resource-item.result.pattern c.args.pattern.now).0 same,
    )

pub loop-resource-preserved : goal.loop-resource-preserved
loop-resource-preserved c =
    let other : bytes_eq c.resource-item.result.pattern c.args.pattern.now ≡ false = search rules in
    record {
      place = ap (λ n. n + 1) c.loop-resource.invariant.place;
      none = All-more (λ (r : ResourceView). HasPattern c.args.pattern.now r → ⊥)
          c.args.resources.now c.loop-resource.resource-index c.resource-item.result
          c.loop-resource-test.true c.loop-resource.invariant.none
          (rw (← c.resource-item.is) (λ e.
          let same = (bytes_eq-Decides c.resource-item.result.pattern c.args.pattern.now).1 e in
          cc));
    }

pub returns : goal.returns
returns c =
    all_taken (λ (r : ResourceView). HasPattern c.args.pattern.now r → ⊥) c.args.resources.now
    c.loop-resource.resource-index c.loop-resource-test.false c.loop-resource.invariant.none
