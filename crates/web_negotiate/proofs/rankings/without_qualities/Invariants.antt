use Rattle.std.proofs.Common.{◌≡◌, map}
use Rattle.web_negotiate.proofs.rankings.without_qualities.Given as goal

abbrev pub invariant-loop-item : goal.invariant-loop-item
invariant-loop-item g l = map (λ item. item.now) l.made.items ≡ map (λ item. item.now.item) l.yielded
