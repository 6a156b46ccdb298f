use Rattle.std.proofs.Common.{◌++◌}
use Rattle.web_lines.proofs.LineMemoryLemmas.{not_too_long}
use Rattle.web_lines.proofs.line_cut.next_cut.Goals as goal

pub returns-then-is_searched-clause-long : goal.returns-then-is_searched-clause-long
returns-then-is_searched-clause-long c =
    λ long. absurd (not_too_long c.args.limit (c.args.held.now.items ++ c.args.piece.now) (c.requires.searched c.if-is_searched.true) long)
