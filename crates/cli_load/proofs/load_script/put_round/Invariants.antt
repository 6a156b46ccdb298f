use Rattle.std.proofs.Common.{◌≡◌, ◌++◌}
use Rattle.cli_load.specs.ScriptTexts.{plan_round}
use Rattle.cli_load.proofs.load_script.put_round.Given as goal

abbrev pub invariant-loop-place : goal.invariant-loop-place
invariant-loop-place l = l.out.items ≡ l.fn.out.items ++ plan_round l.place
