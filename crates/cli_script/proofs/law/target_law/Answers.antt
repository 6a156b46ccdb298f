use Rattle.cli_script.proofs.TargetFormsLemmas.{reading}
use Rattle.cli_script.proofs.law.target_law.Goals as goal

pub returns : goal.returns
returns c = reading
