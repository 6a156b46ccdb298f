use Rattle.cli_script.proofs.LineFaultsLemmas.{first, valid}
use Rattle.cli_script.proofs.law.first_fault_law.Goals as goal

pub returns-clause-valid : goal.returns-clause-valid
returns-clause-valid c = valid

pub returns-clause-first : goal.returns-clause-first
returns-clause-first c = first
