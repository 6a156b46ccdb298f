use Rattle.std.proofs.Common.{◌<◌, ◌≤◌, ◌+◌, List, ℕ, drop, length, subst, sym}
use Rattle.web_messages.specs.Progress.{IsProgress}
use Rattle.web_messages.specs.declared.progress.Progress.{Progress}
use Rattle.web_worker.specs.Setting.{setting_of}
use Rattle.web_http1.specs.BegunAnswers.{BeginsOne, begun_left}
use Rattle.web_http1.specs.Connections.{ConnectionView}
use Rattle.web_http1.proofs.BufferLemmas.{rest_is}
use Rattle.web_http1.proofs.connection.Connection.begin.Goals as goal

pub begin_step-requires-clause-room : goal.begin_step-requires-clause-room
begin_step-requires-clause-room g c =
    let rest = rest_is c.deref.result.now c.self.inside.buffer.items c.self.inside.start c.deref.ensures.value in
    subst (λ (t : List ℕ). c.args.worker.now.made + length t < 18446744073709551616) (sym rest)
    (subst (λ (v : ConnectionView). c.args.worker.now.made + length v.left < 18446744073709551616) (sym c.self.view_is) c.requires.room)

pub invariant_of-self : goal.invariant_of-self
invariant_of-self g c = (
  c.self.invariant.0,
  subst (λ (p : Progress). IsProgress c.self.inside.limits (drop c.self.inside.start c.self.inside.buffer.items) p) (sym c.replace-progress.ensures.after)
      (c.start.ensures c.self.inside.limits (drop c.self.inside.start c.self.inside.buffer.items)),
)

pub returns-clause-made : goal.returns-clause-made
returns-clause-made g c =
    let rest = rest_is c.deref.result.now c.self.inside.buffer.items c.self.inside.start c.deref.ensures.value in
    rw (← c.self.view_is)
    (subst (λ (t : List ℕ). c.begin_step.new.worker.made + begun_left c.begin_step.result (length t) ≤ c.args.worker.now.made + length t) rest c.begin_step.ensures.made)

pub returns-clause-one : goal.returns-clause-one
returns-clause-one g c =
    let s = setting_of (g.S.Service.completed c.args.service.now) (g.S.Service.promise c.args.service.now) (g.S.Service.left c.args.service.now) g.A.Source.Source.feed c.args.worker.now in
    let rest = rest_is c.deref.result.now c.self.inside.buffer.items c.self.inside.start c.deref.ensures.value in
    rw (← c.self.view_is)
    (subst (λ (t : List ℕ). BeginsOne s c.args.settings.now c.self.inside.limits t c.args.out.now.items c.begin_step.new.out.items c.begin_step.result) rest c.begin_step.ensures.one)
