use Rattle.web_negotiate.proofs.GreatestLemmas.{SoFar}
use Rattle.web_negotiate.proofs.greatest.place_of_greatest.Given as goal

abbrev pub invariant-loop-i : goal.invariant-loop-i
invariant-loop-i g l = SoFar (g.R.Ranking.ranks l.ranking) l.items l.i l.best l.most
