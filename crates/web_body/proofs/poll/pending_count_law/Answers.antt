use Rattle.web_body.proofs.PendingCountLemmas.{goes_on, comes_now}
use Rattle.web_body.proofs.poll.pending_count_law.Goals as goal

pub returns-clause-above : goal.returns-clause-above
returns-clause-above g c = λ old new step n ends value shift. goes_on (g.F.Poll.gives old) (g.F.Poll.gives new) step n value shift

pub returns-clause-zero : goal.returns-clause-zero
returns-clause-zero g c = λ old new step ends value shift. comes_now (g.F.Poll.gives old) (g.F.Poll.gives new) step (g.F.Poll.is_finished new) (g.met.F.Poll.some new) ends shift
