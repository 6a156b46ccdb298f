use Rattle.std.proofs.Common.{◌∙◌}
use Rattle.web_extract.proofs.DecodedTextsLemmas.{text_read, text_refused}
use Rattle.web_extract.proofs.body.body_futures.decode.Goals as goal

pub returns-in_ok-from_str-in-Ok : goal.returns-in_ok-from_str-in-Ok
returns-in_ok-from_str-in-Ok c = text_read c.in_ok-from_str-in-Ok.field-0 c.args.bytes.now (c.in_ok-from_str-in-Ok.ensures.ok ∙ c.in-Ok.ensures.cases.0)

pub returns-in_ok-bad_request-in-Err : goal.returns-in_ok-bad_request-in-Err
returns-in_ok-bad_request-in-Err c = text_refused c.args.bytes.now c.in_ok-bad_request-in-Err.field-0 c.in-Err.ensures.cases.0 c.in_ok-bad_request-in-Err.ensures
