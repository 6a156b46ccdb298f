use Rattle.web_multipart.proofs.MultipartArgumentLemmas.{means_exactly}
use Rattle.web_multipart.proofs.law.multipart_law.Goals as goal

pub returns : goal.returns
returns g c = λ q m. means_exactly _ q.head.headers m
