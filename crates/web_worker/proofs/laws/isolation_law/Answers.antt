use Rattle.web_worker.proofs.IsolationLemmas.{same_in_both_runs}
use Rattle.web_worker.proofs.laws.isolation_law.Goals as goal

pub returns : goal.returns
returns g c = λ first second one other root config same.
    same_in_both_runs g.A.Source.Source.feed
    (g.S.Service.completed one) (g.S.Service.completed other)
    (g.S.Service.promise one) (g.S.Service.promise other)
    (g.S.Service.left one) (g.S.Service.left other)
    (g.met.S.Service.keeps one other same) first second root config
