use Rattle.std.proofs.Common.{◌≡◌, ◌∙◌, ◌++◌, ◌∷◌, [], ap, append-nil, arith, map, rules, sym}
use Rattle.std.proofs.lemmas.Grind.{common_steps}
use Rattle.std.proofs.lemmas.List.{map-append, nil_from_length}
use Rattle.std.specs.Vec.Iter.{into_iter_items}
use Rattle.web_worker.specs.Flights.{flight_outcome}
use Rattle.web_worker.specs.Outcomes.{outcome_view, outcome_views}
use Rattle.web_worker.proofs.serving.collect_outcomes.Goals as goal

pub loop-flight-init : goal.loop-flight-init
loop-flight-init g c = record {
  items = rw c.requires.none (search rules);
  count = rw c.requires.none (search rules);
  rest = search rules;
  room = search rules;
}

pub loop-flight-preserved : goal.loop-flight-preserved
loop-flight-preserved g c = record {
  items = ap (λ os. outcome_views g.A.Source.Source.feed os) c.in-Ok.ensures.items
      ∙ map-append (λ o. outcome_view g.A.Source.Source.feed o) c.loop-flight.outcomes.items (c.into_outcome.result ∷ [])
      ∙ ap (λ os. os ++ outcome_view g.A.Source.Source.feed c.into_outcome.result ∷ []) c.loop-flight.invariant.items
      ∙ ap (λ o. map (λ f. flight_outcome f) c.loop-flight.yielded ++ o ∷ []) c.into_outcome.ensures
      ∙ sym (map-append (λ f. flight_outcome f) c.loop-flight.yielded (c.in-Some.flight ∷ []));
  count = grind (arith, common_steps);
  rest = grind (arith, common_steps);
  room = grind (arith, common_steps);
}

pub unreachable-requires : goal.unreachable-requires
unreachable-requires g c = grind (arith, common_steps)

pub returns : goal.returns
returns g c =
    let rest = into_iter_items c.loop-flight.flight-iterator in
    let none : rest ≡ [] = nil_from_length rest (sym c.loop-flight.flight-iterator.rest.ok.0 ∙ c.in-None.ensures.steps.0) in
    let whole : c.loop-flight.yielded ≡ c.args.flights.items =
    sym (append-nil c.loop-flight.yielded) ∙ ap (λ fs. c.loop-flight.yielded ++ fs) (sym none) ∙ c.loop-flight.invariant.rest in
    c.loop-flight.invariant.items ∙ ap (λ fs. map (λ f. flight_outcome f) fs) whole
