use Rattle.web_worker.specs.Outcomes.{outcome_view}
use Rattle.web_worker.specs.Setting.{setting_of}
use Rattle.web_worker.proofs.ServiceLemmas.{flight_rests}
use Rattle.web_worker.proofs.polling.poll_stage.Goals as goal

pub returns-in-Waiting-clause-polls : goal.returns-in-Waiting-clause-polls
returns-in-Waiting-clause-polls g c =
    rw c.in-Waiting.is (c.start_flight.ensures.polls c.in-Waiting.field-0 c.in-Waiting.is)

pub returns-in-Waiting-clause-state : goal.returns-in-Waiting-clause-state
returns-in-Waiting-clause-state g c =
    rw c.in-Waiting.is (c.start_flight.ensures.state c.in-Waiting.field-0 c.in-Waiting.is)

pub returns-in-InFlight-clause-polls : goal.returns-in-InFlight-clause-polls
returns-in-InFlight-clause-polls g c = c.poll_call.ensures.polls c.args.pool.now

pub returns-in-InFlight-clause-state : goal.returns-in-InFlight-clause-state
returns-in-InFlight-clause-state g c = c.poll_call.ensures.state c.args.pool.now

pub returns-in-Answered-clause-polls : goal.returns-in-Answered-clause-polls
returns-in-Answered-clause-polls g c =
    rw c.in-Answered.is
    (flight_rests (setting_of (g.S.Service.completed c.args.service.now)
    (g.S.Service.promise c.args.service.now) (g.S.Service.left c.args.service.now)
    g.A.Source.Source.feed c.args.pool.now)
    (outcome_view g.A.Source.Source.feed c.in-Answered.field-0) c.args.pool.now
    (g.S.Service.calls c.args.service.now))
