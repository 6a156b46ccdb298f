use Rattle.web_body.specs.Payload.{payload_feed}
use Rattle.web_routing.proofs.ServiceLemmas.{changed_begins}
use Rattle.web_routing.proofs.wrap.WrapServiceWhole.begin.Goals as goal

pub returns-clause-begins : goal.returns-clause-begins
returns-clause-begins g c =
    changed_begins (g.F.Change.changes c.args.self.now.change)
    (g.S.Service.completed c.args.self.now.inner c.args.request.now.request)
    c.begin.new.request.request
    (g.S.Service.promise c.args.self.now.inner c.args.request.now.request)
    (payload_feed g.A.Source.Source.feed c.args.payload.now).marks
    (g.S.Service.left c.args.self.now.inner) c.begin.result
    c.begin.ensures.completes c.begin.ensures.begins
