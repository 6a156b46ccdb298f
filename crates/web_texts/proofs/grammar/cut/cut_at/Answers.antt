use Rattle.std.proofs.Common.{sym}
use Rattle.web_texts.proofs.CutLemmas.{cut_is, cut_is_none}
use Rattle.web_texts.proofs.grammar.cut.cut_at.Goals as goal

pub returns-in-Some : goal.returns-in-Some
returns-in-Some c = sym (cut_is c.args.mark c.args.text.now c.in-Some.parts.0.now c.in-Some.parts.1.now c.in-Some.ensures)

pub returns-in-None : goal.returns-in-None
returns-in-None c = sym (cut_is_none c.args.mark c.args.text.now c.in-None.ensures)
