use Rattle.web_worker.specs.HandlerCalls.{AreOver}
use Rattle.web_worker.specs.Outcomes.{outcome_view}
use Rattle.web_routing.proofs.ServiceLemmas.{hidden_calls}
use Rattle.web_routing.proofs.route.RouteServiceWhole.poll.Goals as goal

pub returns-in-First-clause-calls : goal.returns-in-First-clause-calls
returns-in-First-clause-calls g c =
    let left = g.S.Service.left c.args.self.now.first in
    let q = c.args.request.now.request in
    rw c.in-First.is
    (hidden_calls (AreOver (left c.in-First.call q).arguments) (left c.in-First.call q).arguments
    (AreOver (left c.poll.new.call q).arguments)
    (outcome_view g.A.Source.Source.feed c.poll.new.outcome)
    (g.S.Service.calls c.args.self.now.first) (g.S.Service.calls c.poll.new.self)
    c.poll.ensures.calls)

pub returns-in-Other-clause-calls : goal.returns-in-Other-clause-calls
returns-in-Other-clause-calls g c =
    let left = g.T.Service.left c.args.self.now.other in
    let q = c.args.request.now.request in
    rw c.in-Other.is
    (hidden_calls (AreOver (left c.in-Other.call q).arguments) (left c.in-Other.call q).arguments
    (AreOver (left c.poll-in-Other.new.call q).arguments)
    (outcome_view g.A.Source.Source.feed c.poll-in-Other.new.outcome)
    (g.T.Service.calls c.args.self.now.other) (g.T.Service.calls c.poll-in-Other.new.self)
    c.poll-in-Other.ensures.calls)
