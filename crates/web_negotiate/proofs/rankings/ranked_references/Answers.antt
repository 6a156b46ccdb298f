use Rattle.std.proofs.Common.{rules, ap, map, subst}
use Rattle.std.proofs.lemmas.Fn.{always_returns_same}
use Rattle.std.specs.List.Sorted.{IsPermutation, IsStableBy}
use Rattle.std.proofs.lemmas.List.Sorted.{IsPermutation-map}
use Rattle.web_negotiate.proofs.ReferenceLemmas.{ranked_values}
use Rattle.web_negotiate.proofs.rankings.ranked_references.Goals as goal

pub returns : goal.returns
returns g c =
    ranked_values (g.R.Ranking.ranks c.args.ranking.now) c.args.items.now c.in_ok-ranked.ranked.items c.sort_by_key.new.self.items
    c.in_ok-ranked.ensures
    c.in_ok-sort_by_key.ensures.permutation
    (c.in_ok-sort_by_key.ensures.sorted (λ r. record { 0 = g.R.Ranking.ranks c.args.ranking.now r.now }) (always_returns_same _ _ _ (λ a r q k. search rules)))
    (c.in_ok-sort_by_key.ensures.stable (λ r. record { 0 = g.R.Ranking.ranks c.args.ranking.now r.now }) (always_returns_same _ _ _ (λ a r q k. search rules)))
