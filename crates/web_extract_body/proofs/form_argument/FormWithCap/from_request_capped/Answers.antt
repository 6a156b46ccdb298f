use Rattle.std.specs.Prelude.{min}
use Rattle.web_extract_body.proofs.FormArgumentLemmas.{form_extracted}
use Rattle.web_extract_body.proofs.form_argument.FormWithCap.from_request_capped.Goals as goal

pub returns-clause-extracts : goal.returns-clause-extracts
returns-clause-extracts g c =
    rw c.new.ensures
    (form_extracted g.A.Layer.Configs.configurations g.A.Layer.OnForm.Refuse.refuses g.T.ReadPairs.reads_pairs c.args.req.now.request
    (λ n. min n c.args.cap) _ _ c.handler_of.ensures _ c.capped_limit.ensures c.nearest_config-config.ensures.value _ c.in_ok-request.ensures.kept _ _ _ c.in_ok-body.ensures.extracts)
