use Rattle.std.proofs.Common.{refl}
use Rattle.web_http1.proofs.beginning.begin_turn.Goals as goal

pub returns-in-Ok-clause-turned : goal.returns-in-Ok-clause-turned
returns-in-Ok-clause-turned g c = (refl, c.in-Ok.ensures.begun c.args.used)

pub returns-in-Err-clause-turned : goal.returns-in-Err-clause-turned
returns-in-Err-clause-turned g c = c.in-Err.ensures.begun c.args.used
