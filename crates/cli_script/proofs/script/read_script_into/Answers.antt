use Rattle.cli_script.specs.Script.{script_lines}
use Rattle.cli_script.proofs.ScriptLoopLemmas.{all_bodies}
use Rattle.cli_script.proofs.ScriptSizeLemmas.{sizes}
use Rattle.cli_script.proofs.script.read_script_into.Goals as goal

pub returns-clause-bodies : goal.returns-clause-bodies
returns-clause-bodies g c = all_bodies (script_lines c.args.bytes) c.in_ok-read_lines.ensures.read.0

pub returns-clause-total : goal.returns-clause-total
returns-clause-total g c = sizes c.args.bytes
