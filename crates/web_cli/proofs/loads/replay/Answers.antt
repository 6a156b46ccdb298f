use Rattle.web_cli.specs.LoadTexts.{IsSummary, load_script}
use Rattle.web_cli.specs.ScriptAnswers.{AppendsScriptCalls}
use Rattle.web_worker.specs.HandlerServices.{rules_of}
use Rattle.web_cli.proofs.RunLemmas.{wrote}
use Rattle.web_cli.proofs.loads.replay.Goals as goal

pub returns-in-Ok-replay_script-clause-replays : goal.returns-in-Ok-replay_script-clause-replays
returns-in-Ok-replay_script-clause-replays g c =
    let s = rules_of g.Args.FromRequest.means g.Args.Error.Into.converts
    (g.H.Handler.answers c.args.handler.now) g.H.Output.Responder.responds in
    let old = g.H.Handler.calls c.args.handler.now in
    let new = g.H.Handler.calls c.replay_script.new.handler in
    let text = rw c.in-Ok.ensures.text at c.in-Ok-replay_script.ensures.text in
    let calls = rw c.in-Ok.ensures.text at c.in-Ok-replay_script.ensures.calls in
    let written = rw c.deref.ensures.value at c.write_or_fault.ensures in
    wrote (IsSummary s (load_script c.args.load)) (AppendsScriptCalls s old new (load_script c.args.load))
    c.write_or_fault.result c.in-Ok-replay_script.text.items
    (g.O.Output.state c.args.output.now) (g.O.Output.state c.write_or_fault.new.output) text calls written
