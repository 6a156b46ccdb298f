use Rattle.std.proofs.Common.{◌∙◌, sym}
use Rattle.web_worker.specs.Setting.{setting_of}
use Rattle.web_worker.proofs.FlightAtLemmas.{rests}
use Rattle.web_worker.proofs.polling.poll_flight.Goals as goal

pub returns-else-is_open-clause-polls : goal.returns-else-is_open-clause-polls
returns-else-is_open-clause-polls g c =
    rests (setting_of (g.S.Service.completed c.args.service.now)
    (g.S.Service.promise c.args.service.now) (g.S.Service.left c.args.service.now)
    g.A.Source.Source.feed c.args.worker.now)
    c.args.flight.now c.args.worker.now (g.S.Service.calls c.args.service.now)
    (sym c.is_open.ensures ∙ c.if-is_open.false)

pub returns-then-is_open-clause-polls : goal.returns-then-is_open-clause-polls
returns-then-is_open-clause-polls g c =
    rw (← c.worker.view_is, ← c.flight.view_is) c.poll_stage.ensures.polls

pub returns-then-is_open-clause-state : goal.returns-then-is_open-clause-state
returns-then-is_open-clause-state g c =
    rw (← c.worker.view_is, ← c.flight.view_is) c.poll_stage.ensures.state
