use Rattle.std.proofs.Common.{◌-◌}
use Rattle.web_stdio.proofs.sending.drop_rest.Given as goal

abbrev pub decreases-pieces : goal.decreases-pieces
decreases-pieces g l = 67108864 - l.dropped
