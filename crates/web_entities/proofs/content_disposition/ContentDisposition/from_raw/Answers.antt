use Rattle.web_entities.proofs.RawDispositionLemmas.{raw_text, raw_none}
use Rattle.web_entities.proofs.content_disposition.ContentDisposition.from_raw.Goals as goal

pub returns-in-Ok : goal.returns-in-Ok
returns-in-Ok c =
    let cases = rw c.as_bytes.ensures.value at c.in-Ok.ensures.cases in
    rw (raw_text c.args.value.now.bytes c.in-Ok.text.now cases.0 cases.1) c.read_text.ensures

pub returns-in-Err : goal.returns-in-Err
returns-in-Err c =
    let cases = rw c.as_bytes.ensures.value at c.in-Err.ensures.cases in
    raw_none c.args.value.now.bytes cases.0
