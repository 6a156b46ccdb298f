use Rattle.http_header.specs.HeaderMap.{get_all}
use Rattle.web_texts.specs.HeaderTexts.{value_bytes}
use Rattle.web_headers.proofs.ValueListLemmas.{commas_said}
use Rattle.web_headers.proofs.value_readers.from_comma_delimited.Goals as goal

pub returns : goal.returns
returns g c = rw (commas_said g.T.ReadText.reads (value_bytes (get_all c.args.headers.now c.args.name.now))) at c.from_pieces.ensures
