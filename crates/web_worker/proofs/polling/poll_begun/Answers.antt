use Rattle.std.proofs.Common.{◌∙◌, sym, subst}
use Rattle.web_worker.specs.Outcomes.{OutcomeView, outcome_view}
use Rattle.web_worker.specs.ServiceStates.{MovesTo}
use Rattle.web_worker.specs.Setting.{setting_of}
use Rattle.web_worker.proofs.ServiceLemmas.{call_ends, call_stays, on_unfinished, unfinished_is}
use Rattle.web_worker.proofs.polling.poll_begun.Goals as goal

pub returns-then-is_unfinished-clause-unfinished : goal.returns-then-is_unfinished-clause-unfinished
returns-then-is_unfinished-clause-unfinished g c =
    on_unfinished (outcome_view g.A.Source.Source.feed c.poll.new.outcome) _
    (sym c.is_unfinished.ensures ∙ c.if-is_unfinished.true) c.poll.ensures.unfinished

pub returns-then-is_unfinished-clause-polled : goal.returns-then-is_unfinished-clause-polled
returns-then-is_unfinished-clause-polled g c = λ worker.
    let o = outcome_view g.A.Source.Source.feed c.poll.new.outcome in
    let waits : _ = sym c.is_unfinished.ensures ∙ c.if-is_unfinished.true in
    call_stays (setting_of (g.S.Service.completed c.args.service.now)
    (g.S.Service.promise c.args.service.now) (g.S.Service.left c.args.service.now)
    g.A.Source.Source.feed worker) c.args.request c.args.call c.poll.new.call
    (g.S.Service.calls c.args.service.now) (g.S.Service.calls c.poll.new.self) o waits
    c.poll.ensures.polls
    (g.met.S.Service.open c.args.service.now c.poll.new.call c.args.request.request
    (on_unfinished o _ waits c.poll.ensures.unfinished))
    c.poll.ensures.calls

pub returns-else-is_unfinished-clause-polled : goal.returns-else-is_unfinished-clause-polled
returns-else-is_unfinished-clause-polled g c = λ worker.
    let o = outcome_view g.A.Source.Source.feed c.poll.new.outcome in
    call_ends (setting_of (g.S.Service.completed c.args.service.now)
    (g.S.Service.promise c.args.service.now) (g.S.Service.left c.args.service.now)
    g.A.Source.Source.feed worker) c.args.request c.args.call c.poll.new.call
    (g.S.Service.calls c.args.service.now) (g.S.Service.calls c.poll.new.self) o
    (sym c.is_unfinished.ensures ∙ c.if-is_unfinished.false) c.poll.ensures.polls
    c.poll.ensures.calls

pub returns-then-is_unfinished-clause-state : goal.returns-then-is_unfinished-clause-state
returns-then-is_unfinished-clause-state g c =
    let o = outcome_view g.A.Source.Source.feed c.poll.new.outcome in
    subst (λ (z : OutcomeView). MovesTo g.S.Service.states c.args.request.request z
    c.args.service.now c.poll.new.self)
    (unfinished_is o (sym c.is_unfinished.ensures ∙ c.if-is_unfinished.true)) c.poll.ensures.moves
