use Rattle.std.proofs.Common.{◌≡◌, map, take}
use Rattle.web_negotiate.proofs.rankings.references.Given as goal

abbrev pub invariant-loop-item : goal.invariant-loop-item
invariant-loop-item g l = map (λ item. item.now) l.made.items ≡ take l.item-index l.items
