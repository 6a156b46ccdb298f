use Rattle.web_worker.specs.HandlerCalls.{AreOver}
use Rattle.web_worker.specs.Outcomes.{outcome_view}
use Rattle.web_routing.specs.ServiceRoutes.{whole_promise}
use Rattle.web_routing.proofs.ServiceLemmas.{whole_calls}
use Rattle.web_routing.proofs.endpoint.EndpointServices.poll_at.Goals as goal

pub returns-clause-calls : goal.returns-clause-calls
returns-clause-calls g c =
    whole_calls (AreOver (whole_promise (g.S.Service.left c.args.self.now.service
    c.poll.new.call c.args.request.now.request)).arguments)
    (outcome_view g.A.Source.Source.feed c.poll.new.outcome)
