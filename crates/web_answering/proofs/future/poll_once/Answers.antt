use Rattle.web_worker.specs.Setting.{setting_of}
use Rattle.web_answering.proofs.FlightReplyLemmas.{pool_rest, reply_later}
use Rattle.web_answering.proofs.future.poll_once.Goals as goal

pub returns-in-Some-clause-later : goal.returns-in-Some-clause-later
returns-in-Some-clause-later g c = λ r not_yet may f same unanswered.
    let old = c.args.service.now in
    let new = c.poll_flight.new.service in
    let s = setting_of (g.S.Service.completed old) (g.S.Service.promise old) (g.S.Service.left old)
    g.A.Source.Source.feed c.args.worker.now in
    let rest = pool_rest s _ c.poll_flight.new.flight c.args.worker.now c.poll_flight.new.worker
    (g.S.Service.calls old) (g.S.Service.calls new) c.poll_flight.ensures.polls in
    reply_later g.A.Source.Source.feed (g.S.Service.completed old) (g.S.Service.completed new)
    (g.S.Service.promise old) (g.S.Service.promise new) (g.S.Service.left old)
    (g.S.Service.left new) c.args.worker.now c.poll_flight.new.worker
    (g.met.S.Service.keeps old new c.poll_flight.ensures.same_promises) rest _
    c.poll_flight.new.flight c.poll_flight.ensures.polls.step r not_yet may f
    (cc (same, c.in-Some.is)) unanswered
