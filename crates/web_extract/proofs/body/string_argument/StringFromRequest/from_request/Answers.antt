use Rattle.web_extract.proofs.DecodedTextsLemmas.{string_extracted}
use Rattle.web_extract.proofs.body.string_argument.StringFromRequest.from_request.Goals as goal

pub returns-clause-extracts : goal.returns-clause-extracts
returns-clause-extracts g c =
    rw c.new.ensures (string_extracted _ _ c.payload_config-config.ensures _ c.required_type.ensures _ c.limit_of.ensures _ _ _ _ c.in_ok-refusal.ensures.value _ c.new-body.ensures.extracts)
