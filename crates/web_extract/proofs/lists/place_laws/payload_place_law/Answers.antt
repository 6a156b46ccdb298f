use Rattle.web_extract.proofs.SeenResultsLemmas.{place_payload}
use Rattle.web_extract.proofs.lists.place_laws.payload_place_law.Goals as goal

pub returns : goal.returns
returns g c = λ q m p is. place_payload _ _ p m is
