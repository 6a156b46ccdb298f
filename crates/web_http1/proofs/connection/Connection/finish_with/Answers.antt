use Rattle.std.proofs.Common.{List, ℕ, drop, subst, sym}
use Rattle.web_messages.specs.Progress.{IsProgress}
use Rattle.web_messages.specs.declared.progress.Progress.{Progress}
use Rattle.web_http1.specs.RefusalReplies.{FinishesAs}
use Rattle.web_http1.proofs.BufferLemmas.{rest_is}
use Rattle.web_http1.proofs.RefusalLemmas.{unended_as, unended_finishes}
use Rattle.web_http1.proofs.connection.Connection.finish_with.Goals as goal

pub invariant_of-self : goal.invariant_of-self
invariant_of-self c = (
  c.self.invariant.0,
  subst (λ (p : Progress). IsProgress c.self.inside.limits (drop c.self.inside.start c.self.inside.buffer.items) p) (sym c.replace-progress.ensures.after)
      (c.start.ensures c.self.inside.limits (drop c.self.inside.start c.self.inside.buffer.items)),
)

pub returns-clause-finishes : goal.returns-clause-finishes
returns-clause-finishes c =
    rw (← c.self.view_is)
    (unended_as c.args.settings.now (record { limits = c.self.inside.limits; left = drop c.self.inside.start c.self.inside.buffer.items; ended = c.self.inside.ended }) c.finish_rest_as-ended.result c.args.out.now.items c.finish_rest_as-ended.new.out.items c.in_default.is
    (subst (λ (t : List ℕ). FinishesAs c.args.settings.now c.self.inside.limits t c.finish_rest_as-ended.result c.args.out.now.items c.finish_rest_as-ended.new.out.items)
    (rest_is c.deref.result.now c.self.inside.buffer.items c.self.inside.start c.deref.ensures.value) c.finish_rest_as-ended.ensures))

pub returns-clause-same : goal.returns-clause-same
returns-clause-same c =
    rw (← c.self.view_is)
    (unended_finishes c.args.settings.now (record { limits = c.self.inside.limits; left = drop c.self.inside.start c.self.inside.buffer.items; ended = c.self.inside.ended }) c.finish_rest_as-ended.result c.args.out.now.items c.finish_rest_as-ended.new.out.items c.in_default.is
    (subst (λ (t : List ℕ). FinishesAs c.args.settings.now c.self.inside.limits t c.finish_rest_as-ended.result c.args.out.now.items c.finish_rest_as-ended.new.out.items)
    (rest_is c.deref.result.now c.self.inside.buffer.items c.self.inside.start c.deref.ensures.value) c.finish_rest_as-ended.ensures))
