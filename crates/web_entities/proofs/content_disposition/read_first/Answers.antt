use Rattle.http_header.specs.HeaderMap.{get_all}
use Rattle.web_entities.proofs.RawDispositionLemmas.{first_is, first_is_none}
use Rattle.web_entities.proofs.content_disposition.read_first.Goals as goal

pub returns-in-Some : goal.returns-in-Some
returns-in-Some c = rw (first_is (get_all c.args.headers.now c.args.name.now) c.in-Some.value.now c.in-Some.ensures.value) c.from_raw.ensures

pub returns-in-None : goal.returns-in-None
returns-in-None c = first_is_none (get_all c.args.headers.now c.args.name.now) c.in-None.ensures.value
