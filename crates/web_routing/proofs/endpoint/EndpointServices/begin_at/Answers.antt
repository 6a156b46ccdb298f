use Rattle.web_routing.proofs.ServiceLemmas.{if_ok, whole_to_come}
use Rattle.web_routing.proofs.endpoint.EndpointServices.begin_at.Goals as goal

pub returns-clause-to_come : goal.returns-clause-to_come
returns-clause-to_come g c =
    if_ok c.begin.result _ _ (λ call come. whole_to_come) c.begin.ensures.to_come
