use Rattle.web_texts.proofs.PieceLemmas.{IsWithin}
use Rattle.web_texts.proofs.grammar.pieces.piece_end.Given as goal

abbrev pub invariant-loop-i : goal.invariant-loop-i
invariant-loop-i g l = IsWithin g.M.Mode.rule l.i l.mode l.text
