use Rattle.web_worker.specs.declared.handler_service.Work.TheVariants.{Extracting}
use Rattle.web_worker.specs.HandlerCalls.{AreOver}
use Rattle.web_worker.specs.HandlerServices.{Come, rules_of}
use Rattle.web_worker.specs.Outcomes.{outcome_view}
use Rattle.web_worker.proofs.HandlerServiceLemmas.{called, calls_made, calls_made_err}
use Rattle.web_worker.proofs.HandlerServiceLemmas.{calls_pending, calls_refused, extracting}
use Rattle.web_worker.proofs.HandlerServiceLemmas.{refused}
use Rattle.web_worker.proofs.handler_service.AnyService.poll.Goals as goal

pub returns-in-Pending-clause-polls : goal.returns-in-Pending-clause-polls
returns-in-Pending-clause-polls g c =
    rw (c.requires.unanswered, c.in-Extracting.is)
    (extracting (rules_of g.Args.FromRequest.means g.Args.Error.Into.converts
    (g.H.Handler.answers c.args.self.now) g.H.Output.Responder.responds)
    g.Args.Future.Poll.gives g.H.Future.Poll.gives c.args.request.now.request
    c.in-Extracting.future c.poll.new.self c.in-Pending.ensures.shift)

pub returns-in-Pending-clause-calls : goal.returns-in-Pending-clause-calls
returns-in-Pending-clause-calls g c =
    rw (c.requires.unanswered, c.in-Extracting.is)
    (calls_pending (g.Args.Future.Poll.gives c.in-Extracting.future) (g.Args.Future.Poll.gives c.poll.new.self)
    (g.met.Args.Future.Poll.some c.poll.new.self c.in-Pending.ensures.ends)
    c.in-Pending.ensures.shift (g.H.Handler.calls c.args.self.now))

pub returns-in-Ok-clause-polls : goal.returns-in-Ok-clause-polls
returns-in-Ok-clause-polls g c =
    rw c.in-Extracting.is
    (called (rules_of g.Args.FromRequest.means g.Args.Error.Into.converts
    (g.H.Handler.answers c.args.self.now) g.H.Output.Responder.responds)
    g.Args.Future.Poll.gives g.H.Future.Poll.gives c.args.request.now.request
    g.H.Future.Poll.is_finished c.in-Extracting.future c.in-Ready-Ok.args c.in-Ok.future
    (rw c.in-Ready-Ok.field-0-is at c.in-Ready-Ok.ensures.value) c.in-Ok.ensures.answers
    c.begin_handling.new.call (outcome_view g.A.Source.Source.feed c.begin_handling.new.outcome)
    c.begin_handling.ensures)

pub returns-in-Ok-clause-calls : goal.returns-in-Ok-clause-calls
returns-in-Ok-clause-calls g c =
    rw c.in-Extracting.is
    (calls_made (g.Args.Future.Poll.gives c.in-Extracting.future) c.in-Ok.future c.in-Ready-Ok.args
    (rw c.in-Ready-Ok.field-0-is at c.in-Ready-Ok.ensures.value)
    (g.H.Handler.calls c.args.self.now) (g.H.Handler.calls c.call.new.self)
    c.in-Ok.ensures.calls _
    (outcome_view g.A.Source.Source.feed c.begin_handling.new.outcome))

pub returns-in-Err-clause-calls : goal.returns-in-Err-clause-calls
returns-in-Err-clause-calls g c =
    rw c.in-Extracting.is
    (calls_made_err g.row.H-Future.Denot (g.Args.Future.Poll.gives c.in-Extracting.future)
    c.in-Err.field-0 c.in-Ready-Ok.args
    (rw c.in-Ready-Ok.field-0-is at c.in-Ready-Ok.ensures.value)
    (g.H.Handler.calls c.args.self.now) (g.H.Handler.calls c.call.new.self)
    c.in-Err.ensures.calls (AreOver (Come (g.Args.Future.Poll.gives c.poll.new.self))))

pub returns-in-Ready-Err-clause-polls : goal.returns-in-Ready-Err-clause-polls
returns-in-Ready-Err-clause-polls g c =
    rw c.in-Extracting.is
    (refused (rules_of g.Args.FromRequest.means g.Args.Error.Into.converts
    (g.H.Handler.answers c.args.self.now) g.H.Output.Responder.responds)
    g.Args.Future.Poll.gives g.H.Future.Poll.gives c.args.request.now.request
    c.in-Extracting.future c.in-Ready-Err.error
    (outcome_view g.A.Source.Source.feed c.error_outcome.result) (Extracting c.poll.new.self)
    (rw c.in-Ready-Err.field-0-is at c.in-Ready-Err.ensures.value) c.error_outcome.ensures)

pub returns-in-Ready-Err-clause-calls : goal.returns-in-Ready-Err-clause-calls
returns-in-Ready-Err-clause-calls g c =
    rw c.in-Extracting.is
    (calls_refused (g.Args.Future.Poll.gives c.in-Extracting.future) c.in-Ready-Err.error
    (rw c.in-Ready-Err.field-0-is at c.in-Ready-Err.ensures.value) _
    (g.H.Handler.calls c.args.self.now)
    (outcome_view g.A.Source.Source.feed c.error_outcome.result))
