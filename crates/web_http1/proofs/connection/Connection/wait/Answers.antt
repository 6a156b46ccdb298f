use Rattle.std.proofs.Common.{◌≡◌, ◌+◌, ◌∙◌, None, drop, subst, sym}
use Rattle.std.proofs.lemmas.List.{drop-drop}
use Rattle.web_http1.specs.Connections.{ConnectionView}
use Rattle.web_http1.specs.ConnectionSteps.{WaitsBehind}
use Rattle.web_http1.specs.declared.answering.Turned.TheVariants as turned
use Rattle.web_http1.proofs.BufferLemmas.{rest_is}
use Rattle.web_http1.proofs.WaitLemmas.{joined_so, stay_so}
use Rattle.web_http1.proofs.connection.Connection.wait.Goals as goal

pub returns-in-Ok-Some : goal.returns-in-Ok-Some
returns-in-Ok-Some c =
    let limits = c.self.inside.limits in
    let buffer = c.self.inside.buffer.items in
    let start = c.self.inside.start in
    let place = start + c.args.skipped in
    let unended = subst (λ (v : ConnectionView). v.ended ≡ None) (sym c.self.view_is) c.requires.unended in
    let behind = subst (λ (v : ConnectionView). WaitsBehind v.limits v.left (turned.Waits c.args.skipped c.args.progress)) (sym c.self.view_is) c.requires.behind in
    let rest = rest_is c.deref.result.now buffer place c.deref.ensures.value ∙ sym (drop-drop c.args.skipped start buffer) in
    rw (← c.self.view_is)
    (joined_so limits (drop start buffer) _ c.args.skipped c.self.inside.ended c.args.progress unended rest behind c.in-Ok-Some.joined.items c.join_chunks-joined.new.self
    (rw c.in-Ok-Some.field-0-is at c.in-Ok-Some.ensures.joins))

pub returns-in-Ok-None : goal.returns-in-Ok-None
returns-in-Ok-None c =
    let limits = c.self.inside.limits in
    let buffer = c.self.inside.buffer.items in
    let start = c.self.inside.start in
    let place = start + c.args.skipped in
    let unended = subst (λ (v : ConnectionView). v.ended ≡ None) (sym c.self.view_is) c.requires.unended in
    let behind = subst (λ (v : ConnectionView). WaitsBehind v.limits v.left (turned.Waits c.args.skipped c.args.progress)) (sym c.self.view_is) c.requires.behind in
    let rest = rest_is c.deref.result.now buffer place c.deref.ensures.value ∙ sym (drop-drop c.args.skipped start buffer) in
    rw (← c.self.view_is)
    (stay_so limits (drop start buffer) _ c.args.skipped c.self.inside.ended c.args.progress unended rest behind (drop place buffer) c.join_chunks-joined.new.self
    (sym (drop-drop c.args.skipped start buffer)) (rw c.in-Ok-None.field-0-is at c.in-Ok-None.ensures.joins))
