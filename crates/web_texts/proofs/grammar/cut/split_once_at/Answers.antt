use Rattle.std.proofs.Common.{◌==◌, ℕ, sym}
use Rattle.web_texts.proofs.PositionLemmas.{position_none}
use Rattle.web_texts.proofs.grammar.cut.split_once_at.Goals as goal

pub returns-in-None : goal.returns-in-None
returns-in-None c = position_none (λ (b : ℕ). b == c.args.byte) c.args.text.now (sym c.in-None.ensures)
