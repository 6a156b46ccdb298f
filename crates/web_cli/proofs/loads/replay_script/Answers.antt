use Rattle.std.proofs.Common.{◌≡◌, ◌∙◌, ap, arith, [], ℕ, List, length}
use Rattle.cli_script.specs.Script.{ScriptView, script_lines, script_view}
use Rattle.cli_script.specs.ScriptExchanges.{exchanges}
use Rattle.cli_script.specs.ScriptedView.{ScriptedExchangeView}
use Rattle.web_worker.specs.HandlerServices.{rules_of}
use Rattle.web_cli.proofs.RepliesTextLemmas.{calls_same, summary_same}
use Rattle.web_cli.proofs.loads.replay_script.Goals as goal

abbrev script_with : List ScriptedExchangeView → List ℕ → ScriptView
script_with es plan = record { exchanges = es; plan = plan }

pub returns-in-Ok-clause-text : goal.returns-in-Ok-clause-text
returns-in-Ok-clause-text g c =
    let len = c.args.bytes.ok.0 in
    let is : c.len-script_len.result ≡ c.args.bytes.len = c.len-script_len.ensures in
    let es = exchanges (script_lines c.in_ok-from_vec.field-0) in
    let are = c.as_mut_slice.ensures.value ∙ c.in-Ok.ensures.added [] c.new-sink.ensures in
    summary_same (rules_of g.Args.FromRequest.means g.Args.Error.Into.converts
    (g.H.Handler.answers c.args.handler.now) g.H.Output.Responder.responds) c.summary.result
    (script_with es c.deref.result.now) (script_view (script_lines c.args.bytes.items))
    (ap (script_with es) (c.deref.ensures.value ∙ c.in-Ok.ensures.read.1)
    ∙ ap (λ (bytes : List ℕ). script_view (script_lines bytes)) c.in_ok-from_vec.ensures.ok)
    c.len-script_len.result (length c.args.bytes.items) (omega (arith, len, is))
    (c.summary.ensures.text es are c.in-Ok.ensures.bodies)

pub returns-in-Ok-clause-calls : goal.returns-in-Ok-clause-calls
returns-in-Ok-clause-calls g c =
    let es = exchanges (script_lines c.in_ok-from_vec.field-0) in
    let are = c.as_mut_slice.ensures.value ∙ c.in-Ok.ensures.added [] c.new-sink.ensures in
    calls_same (rules_of g.Args.FromRequest.means g.Args.Error.Into.converts
    (g.H.Handler.answers c.args.handler.now) g.H.Output.Responder.responds) c.summary.result
    (script_with es c.deref.result.now) (script_view (script_lines c.args.bytes.items))
    (ap (script_with es) (c.deref.ensures.value ∙ c.in-Ok.ensures.read.1)
    ∙ ap (λ (bytes : List ℕ). script_view (script_lines bytes)) c.in_ok-from_vec.ensures.ok)
    (g.H.Handler.calls c.args.handler.now) (g.H.Handler.calls c.summary.new.handler)
    (c.summary.ensures.calls es are c.in-Ok.ensures.bodies)
