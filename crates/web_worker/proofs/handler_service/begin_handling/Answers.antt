use Rattle.web_worker.specs.Outcomes.{outcome_view}
use Rattle.web_worker.proofs.HandlerServiceLemmas.{handled_now}
use Rattle.web_worker.proofs.handler_service.begin_handling.Goals as goal

pub returns-in-Ready : goal.returns-in-Ready
returns-in-Ready g c =
    handled_now g.W.Poll.is_finished g.W.Poll.gives g.W.Output.Responder.responds
    c.args.future c.args.request.now.request c.in-Ready.value c.args.call.now
    (outcome_view g.A.Source.Source.feed c.response_outcome.result)
    c.in-Ready.ensures.value c.response_outcome.ensures
