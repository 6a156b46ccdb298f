use Rattle.web_extract_body.proofs.FormArgumentLemmas.{form_extracted}
use Rattle.web_extract_body.proofs.form_argument.FormFromRequest.from_request.Goals as goal

pub returns-clause-extracts : goal.returns-clause-extracts
returns-clause-extracts g c =
    rw c.new.ensures
    (form_extracted g.A.Layer.Configs.configurations g.A.Layer.OnForm.Refuse.refuses g.T.ReadPairs.reads_pairs c.args.req.now.request
    (λ n. n) _ _ c.handler_of.ensures _ c.limit_of.ensures c.nearest_config-config.ensures.value _ c.in_ok-request.ensures.kept _ _ _ c.in_ok-body.ensures.extracts)
