use Rattle.std.proofs.Common.{map, sym, ◌∙◌}
use Rattle.std.specs.Borrow.{Bor}
use Rattle.std.proofs.lemmas.Simd.{map-map}
use Rattle.web_texts.specs.declared.media.quality_item.QualityItem.{QualityItem}
use Rattle.web_negotiate.proofs.rankings.ranked_copies.Goals as goal

pub returns : goal.returns
returns g c = record {
  ranked = map (λ item. item.now) c.in_ok-ranked.ranked.items;
  is_ranked = c.in_ok-ranked.ensures;
  are = c.in_ok-copies.ensures ∙ sym (map-map (λ (x : QualityItem g.row.T.Denot). x.item) (λ (r : Bor (QualityItem g.row.T.Denot)). r.now) c.in_ok-ranked.ranked.items);
}
