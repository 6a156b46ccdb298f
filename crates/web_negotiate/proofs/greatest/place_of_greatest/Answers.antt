use Rattle.web_negotiate.proofs.GreatestLemmas.{at_start, taken, kept, at_end}
use Rattle.web_negotiate.proofs.greatest.place_of_greatest.Goals as goal
use Rattle.web_negotiate.proofs.greatest.place_of_greatest.Goals.{then-rank-most, else-rank-most}

pub loop-i-init : goal.loop-i-init
loop-i-init g c = at_start (g.R.Ranking.ranks c.args.ranking.now) c.args.items.now

pub loop-i-preserved : goal.loop-i-preserved
loop-i-preserved g c = elim c.if-rank-most.branch [
  | then-rank-most w ↦
      rw (w.best-is, w.most-is, c.rank-rank.ensures)
      (taken (g.R.Ranking.ranks c.args.ranking.now) c.args.items.now c.loop-i.i c.loop-i.best c.loop-i.most c.index-items-i.result c.loop-i-test.true c.index-items-i.is
      (rw c.rank-rank.ensures at w.if-rank-most.true) c.loop-i.invariant)
  | else-rank-most w ↦
      rw (w.best-is, w.most-is)
      (kept (g.R.Ranking.ranks c.args.ranking.now) c.args.items.now c.loop-i.i c.loop-i.best c.loop-i.most c.index-items-i.result c.loop-i-test.true c.index-items-i.is
      (rw c.rank-rank.ensures at w.if-rank-most.false) c.loop-i.invariant)
]

pub returns : goal.returns
returns g c = at_end (g.R.Ranking.ranks c.args.ranking.now) c.args.items.now c.loop-i.i c.loop-i.best c.loop-i.most c.loop-i-test.false c.loop-i.invariant
