use Rattle.std.proofs.Common.{ap}
use Rattle.web_extract.specs.CappedArguments.{capped_settings}
use Rattle.web_extract.proofs.DecodedTextsLemmas.{string_extracted}
use Rattle.web_extract.proofs.body.string_argument.StringWithCap.from_request_capped.Goals as goal

pub returns-clause-extracts : goal.returns-clause-extracts
returns-clause-extracts g c =
    rw c.new.ensures (string_extracted _ _ (ap (capped_settings c.args.cap) c.payload_config-config.ensures) _ c.required_type.ensures _ c.capped_limit-limit.ensures _ _ _ _ c.in_ok-refusal.ensures.value _ c.new-body.ensures.extracts)
