use Rattle.web_extract_body.proofs.JsonArgumentLemmas.{json_extracted}
use Rattle.web_extract_body.proofs.json_argument.JsonFromRequest.from_request.Goals as goal

pub returns-clause-extracts : goal.returns-clause-extracts
returns-clause-extracts g c =
    rw c.new.ensures
    (json_extracted g.A.Layer.Configs.configurations g.A.Layer.OnJson.Refuse.refuses g.A.Layer.JsonType.AllowType.allows_type g.T.ReadJson.reads c.args.req.now.request
    (λ n. n) _ _ c.handler_of.ensures _ c.limit_of.ensures c.nearest_config-config.ensures.value _ c.in_ok-request.ensures.kept _ _ _ c.in_ok-body.ensures.extracts)
