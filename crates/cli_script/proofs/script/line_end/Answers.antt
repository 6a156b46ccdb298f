use Rattle.cli_script.proofs.NewlineLemmas.{line_clause, last_clause}
use Rattle.cli_script.proofs.script.line_end.Goals as goal

pub returns-clause-line : goal.returns-clause-line
returns-clause-line c = line_clause c.args.text.now c.memchr.result c.memchr.ensures

pub returns-clause-last : goal.returns-clause-last
returns-clause-last c = last_clause c.args.text.now c.memchr.result c.memchr.ensures
