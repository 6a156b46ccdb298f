use Rattle.web_messages.proofs.HeadFaultLemmas.{first_found, first_shorter}
use Rattle.web_messages.proofs.head_fault.first_line.Goals as goal

pub returns-clause-lines : goal.returns-clause-lines
returns-clause-lines c = first_found c.args.text.now c.split_once_at.result c.split_once_at.ensures

pub returns-clause-shorter : goal.returns-clause-shorter
returns-clause-shorter c = first_shorter c.args.text.now c.split_once_at.result c.split_once_at.ensures
