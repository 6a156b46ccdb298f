use Rattle.web_worker.proofs.StateLemmas.{runs_next, runs_none}
use Rattle.web_worker.proofs.laws.run_law.Goals as goal

pub returns-clause-none : goal.returns-clause-none
returns-clause-none g c = λ s. runs_none g.S.Service.states s

pub returns-clause-next : goal.returns-clause-next
returns-clause-next g c = λ q o qs os a b d moves run.
    runs_next g.S.Service.states q o qs os a b d moves run
