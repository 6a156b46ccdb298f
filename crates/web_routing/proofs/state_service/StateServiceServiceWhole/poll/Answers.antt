use Rattle.std.specs.Prelude.{ℕ, Err}
use Rattle.std.proofs.Common.{[], refl}
use Rattle.web_worker.specs.declared.handler_service.Work.TheVariants.{Extracting}
use Rattle.web_worker.specs.HandlerServices.{extracting_promise, rules_of}
use Rattle.web_worker.specs.Outcomes.{OutcomeView.Unfinished, OutcomeView.NoMemory}
use Rattle.web_worker.specs.Outcomes.{outcome_view}
use Rattle.web_worker.proofs.HandlerServiceLemmas.{extracting, refused}
use Rattle.web_routing.specs.StateServices.{StateAnswers, StateSteps, kept_states}
use Rattle.web_routing.proofs.ServiceLemmas.{at_once, whole_calls, whole_polls}
use Rattle.web_routing.proofs.StateLemmas.{reached, state_lost, state_refused, state_replied}
use Rattle.web_routing.proofs.state_service.StateServiceServiceWhole.poll.Goals as goal

pub returns-in-Pending-clause-polls : goal.returns-in-Pending-clause-polls
returns-in-Pending-clause-polls g c =
    let R = rules_of g.Args.FromRequest.means g.Args.Error.Into.converts
    (StateAnswers g.H.StateHandler.replies) g.H.Output.Responder.responds in
    let q = c.args.request.now.request in
    rw c.requires.unanswered
    (whole_polls Unfinished (extracting_promise R g.Args.Future.Poll.gives c.args.call.now q)
    (extracting_promise R g.Args.Future.Poll.gives c.poll.new.self q)
    (extracting R g.Args.Future.Poll.gives (λ (w : ℕ) n y. ℕ) q c.args.call.now c.poll.new.self
    c.in-Pending.ensures.shift))

pub returns-in-Pending-clause-calls : goal.returns-in-Pending-clause-calls
returns-in-Pending-clause-calls g c =
    whole_calls _ (outcome_view g.A.Source.Source.feed c.args.outcome.now)

pub returns-in-Ok-clause-polls : goal.returns-in-Ok-clause-polls
returns-in-Ok-clause-polls g c =
    let R = rules_of g.Args.FromRequest.means g.Args.Error.Into.converts
    (StateAnswers g.H.StateHandler.replies) g.H.Output.Responder.responds in
    let q = c.args.request.now.request in
    let o = outcome_view g.A.Source.Source.feed c.response_outcome.result in
    whole_polls o (extracting_promise R g.Args.Future.Poll.gives c.args.call.now q)
    (extracting_promise R g.Args.Future.Poll.gives c.poll.new.self q)
    (at_once R g.Args.Future.Poll.gives q c.args.call.now c.poll.new.self c.in-Ready-Ok.args
    c.in-Ok.value o (rw c.in-Ready-Ok.field-0-is at c.in-Ready-Ok.ensures.value)
    (refl, c.args.self.now.handler, c.reply.new.self, c.in-Ok.ensures)
    c.response_outcome.ensures)

pub returns-in-Ok-clause-calls : goal.returns-in-Ok-clause-calls
returns-in-Ok-clause-calls g c =
    whole_calls _ (outcome_view g.A.Source.Source.feed c.response_outcome.result)

pub returns-in-Ok-clause-moves : goal.returns-in-Ok-clause-moves
returns-in-Ok-clause-moves g c =
    state_replied (λ s. s.handler) g.H.StateHandler.replies g.Args.Error.Into.converts
    g.H.Output.Responder.responds c.args.self.now
    (record { handler = c.reply.new.self; args = c.args.self.now.args })
    c.args.request.now.request c.in-Ready-Ok.args c.in-Ok.value c.in-Ok.ensures
    (outcome_view g.A.Source.Source.feed c.response_outcome.result) c.response_outcome.ensures

pub returns-in-Err-clause-moves : goal.returns-in-Err-clause-moves
returns-in-Err-clause-moves g c =
    state_lost (StateSteps g.H.StateHandler.replies g.Args.Error.Into.converts
    g.H.Output.Responder.responds) c.args.self.now.handler c.reply.new.self
    c.args.request.now.request (c.in-Ready-Ok.args, Err c.in-Err.field-0, c.in-Err.ensures)

pub returns-in-Ready-Err-clause-polls : goal.returns-in-Ready-Err-clause-polls
returns-in-Ready-Err-clause-polls g c =
    let R = rules_of g.Args.FromRequest.means g.Args.Error.Into.converts
    (StateAnswers g.H.StateHandler.replies) g.H.Output.Responder.responds in
    let q = c.args.request.now.request in
    let o = outcome_view g.A.Source.Source.feed c.error_outcome.result in
    whole_polls o (extracting_promise R g.Args.Future.Poll.gives c.args.call.now q)
    (extracting_promise R g.Args.Future.Poll.gives c.poll.new.self q)
    (refused R g.Args.Future.Poll.gives (λ (w : ℕ) n y. ℕ) q c.args.call.now
    c.in-Ready-Err.error o (Extracting c.poll.new.self)
    (rw c.in-Ready-Err.field-0-is at c.in-Ready-Err.ensures.value) c.error_outcome.ensures)

pub returns-in-Ready-Err-clause-calls : goal.returns-in-Ready-Err-clause-calls
returns-in-Ready-Err-clause-calls g c =
    whole_calls _ (outcome_view g.A.Source.Source.feed c.error_outcome.result)

pub returns-in-Ready-Err-clause-moves : goal.returns-in-Ready-Err-clause-moves
returns-in-Ready-Err-clause-moves g c =
    state_refused (λ s. s.handler) g.H.StateHandler.replies g.Args.Error.Into.converts
    g.H.Output.Responder.responds c.args.self.now c.args.request.now.request
    c.in-Ready-Err.error (outcome_view g.A.Source.Source.feed c.error_outcome.result)
    c.error_outcome.ensures

pub returns-in-Pending-clause-same : goal.returns-in-Pending-clause-same
returns-in-Pending-clause-same g c = ([], [], refl)

pub returns-in-Ok-clause-same : goal.returns-in-Ok-clause-same
returns-in-Ok-clause-same g c =
    reached (kept_states (λ s. s.handler) (StateSteps g.H.StateHandler.replies
    g.Args.Error.Into.converts g.H.Output.Responder.responds)) c.args.self.now
    (record { handler = c.reply.new.self; args = c.args.self.now.args })
    c.args.request.now.request
    (outcome_view g.A.Source.Source.feed c.response_outcome.result)
    (returns-in-Ok-clause-moves g c)

pub returns-in-Err-clause-same : goal.returns-in-Err-clause-same
returns-in-Err-clause-same g c =
    reached (kept_states (λ s. s.handler) (StateSteps g.H.StateHandler.replies
    g.Args.Error.Into.converts g.H.Output.Responder.responds)) c.args.self.now
    (record { handler = c.reply.new.self; args = c.args.self.now.args })
    c.args.request.now.request NoMemory (returns-in-Err-clause-moves g c)

pub returns-in-Ready-Err-clause-same : goal.returns-in-Ready-Err-clause-same
returns-in-Ready-Err-clause-same g c = ([], [], refl)

pub returns-in-NoMemory-clause-same : goal.returns-in-NoMemory-clause-same
returns-in-NoMemory-clause-same g c = ([], [], refl)
