use Rattle.web_body.specs.Payload.{payload_feed}
use Rattle.web_worker.specs.HandlerServices.{rules_of}
use Rattle.web_worker.proofs.HandlerServiceLemmas.{begun, not_over}
use Rattle.web_worker.proofs.handler_service.AnyService.begin.Goals as goal

pub returns-clause-begins : goal.returns-clause-begins
returns-clause-begins g c =
    begun (rules_of g.Args.FromRequest.means g.Args.Error.Into.converts
    (g.H.Handler.answers c.args.self.now) g.H.Output.Responder.responds)
    g.Args.Future.Poll.gives g.H.Future.Poll.gives c.args.request.now.request
    c.in_ok-from_request.field-0 (payload_feed g.A.Source.Source.feed c.args.payload.now).marks
    (payload_feed g.A.Source.Source.feed c.from_request.new.payload).marks
    c.in_ok-from_request.ensures.extracts

pub returns-clause-to_come : goal.returns-clause-to_come
returns-clause-to_come g c =
    not_over (g.Args.Future.Poll.gives c.in_ok-from_request.field-0)
    (g.met.Args.Future.Poll.some c.in_ok-from_request.field-0 c.in_ok-from_request.ensures.fresh)
