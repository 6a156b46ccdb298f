use Rattle.std.proofs.Common.{◌∙◌, ◌++◌, ap, [], ℕ, List}
use Rattle.std.specs.Option.{option_map}
use Rattle.cli_script.specs.Script.{script_lines, script_view}
use Rattle.cli_script.specs.ScriptExchanges.{exchanges}
use Rattle.web_cli.specs.ScriptAnswers.{calls_to, replies_to}
use Rattle.web_cli.proofs.script_answer.answer_script.Goals as goal

pub returns-in-Ok-clause-text : goal.returns-in-Ok-clause-text
returns-in-Ok-clause-text g c = λ a h meets handles.
    let es = exchanges (script_lines c.in_ok-from_vec.field-0) in
    let are = c.as_mut_slice-flights.ensures.value ∙ c.in-Ok.ensures.added [] c.new-sink.ensures in
    c.in_ok-text-in-Ok.ensures.text es are c.in-Ok.ensures.bodies a h meets handles
    ∙ ap (λ (plan : List ℕ). replies_to a h c.args.capacity (record { exchanges = es; plan = plan }))
    (c.deref.ensures.value ∙ c.in-Ok.ensures.read.1)
    ∙ ap (λ (bytes : List ℕ). replies_to a h c.args.capacity (script_view (script_lines bytes)))
    c.in_ok-from_vec.ensures.ok

pub returns-in-Ok-clause-calls : goal.returns-in-Ok-clause-calls
returns-in-Ok-clause-calls g c = λ a meets.
    let es = exchanges (script_lines c.in_ok-from_vec.field-0) in
    let are = c.as_mut_slice-flights.ensures.value ∙ c.in-Ok.ensures.added [] c.new-sink.ensures in
    let old = g.H.Handler.calls c.args.handler.now in
    c.in_ok-text-in-Ok.ensures.calls es are c.in-Ok.ensures.bodies a meets
    ∙ ap (λ (plan : List ℕ). option_map (λ calls.
    calls ++ calls_to a (record { exchanges = es; plan = plan })) old)
    (c.deref.ensures.value ∙ c.in-Ok.ensures.read.1)
    ∙ ap (λ (bytes : List ℕ). option_map (λ calls.
    calls ++ calls_to a (script_view (script_lines bytes))) old) c.in_ok-from_vec.ensures.ok
