use Rattle.std.proofs.Common.{◌≡◌}
use Rattle.web_reply.specs.Replies.{Fault}
use Rattle.demo_picked.specs.PickedArguments.{MeansPicked}
use Rattle.demo_picked.specs.PickedFunctions.{picked_arguments}
use Rattle.demo_picked.proofs.PickedFunctionsLemmas.{picked_meets}
use Rattle.demo_command.specs.PickedScripts.{AppendsPickedCalls, ArePickedReplies, IsPickedSummary}
use Rattle.web_cli.specs.LoadTexts.{IsSummary, load_script}
use Rattle.web_cli.specs.ScriptAnswers.{AppendsScriptCalls, AreReplies}
use Rattle.web_cli.proofs.DemoSettingLemmas.{DemoRules}
use Rattle.web_cli.proofs.RunLemmas.{alone_as, headline_as, result_as}
use Rattle.demo_command.proofs.command.run.Goals as goal

pub returns-clause-serves : goal.returns-clause-serves
returns-clause-serves g c = λ capacity words.
    let s : DemoRules _ Fault _ = record {
      means = λ q m rest n x. MeansPicked q m rest n x;
      converts = λ e f. f ≡ e;
      answers = g.H.Handler.answers c.args.handler.now;
      responds = g.H.Output.Responder.responds;
    } in
    let old = g.H.Handler.calls c.args.handler.now in
    let new = g.H.Handler.calls c.run_over.new.handler in
    let h = c.run_over.ensures.serves capacity words in (
      h.0,
      result_as (AreReplies s capacity)
          (ArePickedReplies (g.H.Handler.answers c.args.handler.now) g.H.Output.Responder.responds
          capacity)
          (AppendsScriptCalls s old new) (AppendsPickedCalls old new)
          (λ came text replies handler meets. replies picked_arguments handler picked_meets meets)
          (λ came calls. calls picked_arguments picked_meets)
          (c.run_over.new.handler ≡ c.args.handler.now) (c.run_over.new.handler ≡ c.args.handler.now)
          (λ same. same) c.run_over.result h.0 _ _ _ _ h.1,
    )

pub returns-clause-headline : goal.returns-clause-headline
returns-clause-headline g c = λ capacity words.
    let s : DemoRules _ Fault _ = record {
      means = λ q m rest n x. MeansPicked q m rest n x;
      converts = λ e f. f ≡ e;
      answers = g.H.Handler.answers c.args.handler.now;
      responds = g.H.Output.Responder.responds;
    } in
    let old = g.H.Handler.calls c.args.handler.now in
    let new = g.H.Handler.calls c.run_over.new.handler in
    headline_as (AreReplies s capacity)
    (ArePickedReplies (g.H.Handler.answers c.args.handler.now) g.H.Output.Responder.responds
    capacity)
    (AppendsScriptCalls s old new) (AppendsPickedCalls old new)
    (λ came text replies handler meets. replies picked_arguments handler picked_meets meets)
    (λ came calls. calls picked_arguments picked_meets)
    c.run_over.result (g.I.Input.state c.args.input.now) (g.I.Input.state c.run_over.new.input)
    (g.O.Output.state c.args.output.now) (g.O.Output.state c.run_over.new.output)
    (c.run_over.ensures.headline capacity words)

pub returns-clause-replays : goal.returns-clause-replays
returns-clause-replays g c = λ load words.
    let s : DemoRules _ Fault _ = record {
      means = λ q m rest n x. MeansPicked q m rest n x;
      converts = λ e f. f ≡ e;
      answers = g.H.Handler.answers c.args.handler.now;
      responds = g.H.Output.Responder.responds;
    } in
    let old = g.H.Handler.calls c.args.handler.now in
    let new = g.H.Handler.calls c.run_over.new.handler in
    alone_as (IsSummary s (load_script load))
    (IsPickedSummary (g.H.Handler.answers c.args.handler.now) g.H.Output.Responder.responds (load_script load))
    (AppendsScriptCalls s old new (load_script load)) (AppendsPickedCalls old new (load_script load))
    (λ text summary handler meets. summary picked_arguments handler picked_meets meets)
    (λ calls. calls picked_arguments picked_meets)
    c.run_over.result (g.I.Input.state c.args.input.now) (g.I.Input.state c.run_over.new.input)
    (g.O.Output.state c.args.output.now) (g.O.Output.state c.run_over.new.output)
    (c.run_over.ensures.replays load words)

pub returns-clause-connects : goal.returns-clause-connects
returns-clause-connects g c = λ capacity words. c.run_over.ensures.connects capacity words

pub returns-clause-answered : goal.returns-clause-answered
returns-clause-answered g c = λ capacity words. c.run_over.ensures.answered capacity words
