use Rattle.web_extract.proofs.SeenResultsLemmas.{place_own, sees_exactly}
use Rattle.web_extract.proofs.lists.place_laws.same_error_law.Goals as goal

pub returns-clause-seen : goal.returns-clause-seen
returns-clause-seen g c = λ q. place_own _ _

pub returns-clause-exactly : goal.returns-clause-exactly
returns-clause-exactly g c = λ q m rest v exact.
    place_own _ (g.A.FromRequest.means q) m rest _ (sees_exactly _ (g.A.FromRequest.means q) m rest v exact)
