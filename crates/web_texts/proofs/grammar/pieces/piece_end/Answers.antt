use Rattle.web_texts.proofs.PieceLemmas.{at_front}
use Rattle.web_texts.proofs.grammar.pieces.piece_end.Goals as goal

pub loop-i-init : goal.loop-i-init
loop-i-init g c = rw c.first-mode.ensures (at_front g.M.Mode.rule c.args.text.now)
