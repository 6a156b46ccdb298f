use Rattle.std.proofs.Common.{◌≡◌, map}
use Rattle.web_negotiate.proofs.rankings.copied_items.Given as goal

abbrev pub invariant-loop-item : goal.invariant-loop-item
invariant-loop-item g l = l.copies.items ≡ map (λ item. item.now.item) l.yielded
