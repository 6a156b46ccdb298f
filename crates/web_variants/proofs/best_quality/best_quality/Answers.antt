use Rattle.std.proofs.Common.{Some, sym, ap, ◌∙◌}
use Rattle.std.specs.Option.{option_map}
use Rattle.web_variants.proofs.FirstGreatestLemmas.{greatest_at, none_greatest}
use Rattle.web_variants.proofs.best_quality.best_quality.Goals as goal

pub returns-in-Some : goal.returns-in-Some
returns-in-Some g c =
    let found = greatest_at (g.R.Ranking.ranks c.args.ranking.now) c.args.items.now c.in-Some.place c.index-items-place.result c.in-Some.ensures in
    ap Some c.thousandths.ensures.value ∙ sym (ap (option_map (λ x. x.quality)) found)

pub returns-in-None : goal.returns-in-None
returns-in-None g c =
    sym (ap (option_map (λ x. x.quality)) (none_greatest (g.R.Ranking.ranks c.args.ranking.now) c.args.items.now c.in-None.ensures))
