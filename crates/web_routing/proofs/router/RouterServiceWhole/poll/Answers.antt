use Rattle.std.specs.Prelude.{⊤}
use Rattle.web_reply.specs.ResponseBodies.{box_plain}
use Rattle.web_reply.specs.Replies.{plain_reply}
use Rattle.web_worker.specs.declared.service.Whole.{Whole}
use Rattle.web_worker.specs.HandlerCalls.{AreOver}
use Rattle.web_worker.specs.Outcomes.{OutcomeView.Replied, outcome_view}
use Rattle.web_routing.proofs.ServiceLemmas.{hidden_calls, whole_calls}
use Rattle.web_routing.proofs.router.RouterServiceWhole.poll.Goals as goal

pub returns-in-Route-clause-calls : goal.returns-in-Route-clause-calls
returns-in-Route-clause-calls g c = rw c.in-Route.is c.poll_at.ensures.calls

pub returns-in-Other-clause-calls : goal.returns-in-Other-clause-calls
returns-in-Other-clause-calls g c =
    let left = g.T.Service.left c.args.self.now.other in
    let q = c.args.request.now.request in
    rw c.in-Other.is
    (hidden_calls (AreOver (left c.in-Other.call q).arguments) (left c.in-Other.call q).arguments
    (AreOver (left c.poll.new.call q).arguments)
    (outcome_view g.A.Source.Source.feed c.poll.new.outcome)
    (g.T.Service.calls c.args.self.now.other) (g.T.Service.calls c.poll.new.self)
    c.poll.ensures.calls)

pub returns-in-Ok-clause-calls : goal.returns-in-Ok-clause-calls
returns-in-Ok-clause-calls g c =
    rw c.in-Methods.is
    (whole_calls (AreOver {V = Whole} (λ k y. ⊤))
    (Replied (plain_reply (box_plain g.A.Source.Source.feed) c.in-Ok.reply)))
