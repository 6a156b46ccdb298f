use Rattle.std.proofs.Common.{◌<◌, ◌+◌, [], List, ℕ, drop, sym, subst}
use Rattle.web_messages.specs.Progress.{IsProgress}
use Rattle.web_messages.specs.declared.progress.Progress.{Progress}
use Rattle.web_worker.specs.Setting.{setting_of}
use Rattle.web_http1.specs.Connections.{ConnectionView, bytes_open, open_at}
use Rattle.web_http1.specs.ConnectionSteps.{WaitsBehind}
use Rattle.web_http1.specs.declared.answering.Turned.TheVariants as turned
use Rattle.web_http1.proofs.WaitLemmas.{wait_answered, wait_limits, wait_made, wait_where}
use Rattle.web_http1.proofs.BufferLemmas.{rest_is}
use Rattle.web_http1.proofs.OneBufferLemmas as one
use Rattle.web_http1.proofs.connection.Connection.answer_next.Goals as goal

pub serve_next-turned-requires-clause-room : goal.serve_next-turned-requires-clause-room
serve_next-turned-requires-clause-room g c =
    let s = setting_of (g.S.Service.completed c.args.service.now) (g.S.Service.promise c.args.service.now) (g.S.Service.left c.args.service.now) g.A.Source.Source.feed c.args.worker.now in
    let rest = rest_is c.deref.result.now c.self.inside.buffer.items c.self.inside.start c.deref.ensures.value in
    one.room_there s c.self.inside.limits c.self.inside.buffer.items c.self.inside.start c.self.inside.ended _ [] [] rest c.in_default.is c.args.worker.now.made _
    (subst (λ (v : ConnectionView). c.args.worker.now.made + bytes_open v < 18446744073709551616) (sym c.self.view_is) c.requires.room)

pub invariant_of-self : goal.invariant_of-self
invariant_of-self g c =
    let s = setting_of (g.S.Service.completed c.args.service.now) (g.S.Service.promise c.args.service.now) (g.S.Service.left c.args.service.now) g.A.Source.Source.feed c.args.worker.now in
    let rest = rest_is c.deref.result.now c.self.inside.buffer.items c.self.inside.start c.deref.ensures.value in
    let turned = rw c.in-Goes.is at c.serve_next-turned.ensures.turned in (
      one.inside_there s c.self.inside.limits c.self.inside.buffer.items c.self.inside.start c.self.inside.ended _ c.args.out.now.items c.serve_next-turned.new.out.items rest c.in_default.is c.in-Goes.used c.self.invariant.0 turned.1,
      subst (λ (p : Progress). IsProgress c.self.inside.limits (drop (c.self.inside.start + c.in-Goes.used) c.self.inside.buffer.items) p) (sym c.replace-progress.ensures.after) (c.start.ensures c.self.inside.limits (drop (c.self.inside.start + c.in-Goes.used) c.self.inside.buffer.items)),
    )

pub invariant_of-self-in-Ended : goal.invariant_of-self-in-Ended
invariant_of-self-in-Ended g c =
    let s = setting_of (g.S.Service.completed c.args.service.now) (g.S.Service.promise c.args.service.now) (g.S.Service.left c.args.service.now) g.A.Source.Source.feed c.args.worker.now in
    let rest = rest_is c.deref.result.now c.self.inside.buffer.items c.self.inside.start c.deref.ensures.value in (
      c.self.invariant.0,
      subst (λ (p : Progress). IsProgress c.self.inside.limits (drop c.self.inside.start c.self.inside.buffer.items) p) (sym c.replace-progress.ensures.after) (c.start.ensures c.self.inside.limits (drop c.self.inside.start c.self.inside.buffer.items)),
    )

pub returns-in-Goes-clause-made : goal.returns-in-Goes-clause-made
returns-in-Goes-clause-made g c =
    let s = setting_of (g.S.Service.completed c.args.service.now) (g.S.Service.promise c.args.service.now) (g.S.Service.left c.args.service.now) g.A.Source.Source.feed c.args.worker.now in
    let rest = rest_is c.deref.result.now c.self.inside.buffer.items c.self.inside.start c.deref.ensures.value in
    let turned = rw c.in-Goes.is at c.serve_next-turned.ensures.turned in
    let made = rw c.in-Goes.is at c.serve_next-turned.ensures.made in
    rw (← c.self.view_is)
    (one.made_there s c.self.inside.limits c.self.inside.buffer.items c.self.inside.start c.self.inside.ended _ c.args.out.now.items c.serve_next-turned.new.out.items rest c.in_default.is c.in-Goes.used c.args.worker.now.made c.serve_next-turned.new.worker.made c.self.invariant.0 turned.1 made)

pub returns-in-Goes-clause-answered : goal.returns-in-Goes-clause-answered
returns-in-Goes-clause-answered g c =
    let s = setting_of (g.S.Service.completed c.args.service.now) (g.S.Service.promise c.args.service.now) (g.S.Service.left c.args.service.now) g.A.Source.Source.feed c.args.worker.now in
    let rest = rest_is c.deref.result.now c.self.inside.buffer.items c.self.inside.start c.deref.ensures.value in
    let turned = rw c.in-Goes.is at c.serve_next-turned.ensures.turned in
    let one_reply = rw c.in-Goes.is at c.serve_next-turned.ensures.one in
    rw (← c.self.view_is)
    (one.goes_answered s c.self.inside.limits c.self.inside.buffer.items c.self.inside.start c.self.inside.ended _ c.args.out.now.items c.serve_next-turned.new.out.items rest c.in_default.is c.in-Goes.used turned one_reply)

pub returns-in-Goes-clause-steps : goal.returns-in-Goes-clause-steps
returns-in-Goes-clause-steps g c =
    let s = setting_of (g.S.Service.completed c.args.service.now) (g.S.Service.promise c.args.service.now) (g.S.Service.left c.args.service.now) g.A.Source.Source.feed c.args.worker.now in
    let rest = rest_is c.deref.result.now c.self.inside.buffer.items c.self.inside.start c.deref.ensures.value in
    let turned = rw c.in-Goes.is at c.serve_next-turned.ensures.turned in
    rw (← c.self.view_is)
    (one.goes_steps s c.self.inside.limits c.self.inside.buffer.items c.self.inside.start c.self.inside.ended _ c.args.out.now.items c.serve_next-turned.new.out.items rest c.in_default.is c.in-Goes.used turned)

pub returns-clause-answered : goal.returns-clause-answered
returns-clause-answered g c =
    let s = setting_of (g.S.Service.completed c.args.service.now) (g.S.Service.promise c.args.service.now) (g.S.Service.left c.args.service.now) g.A.Source.Source.feed c.args.worker.now in
    let rest = rest_is c.deref.result.now c.self.inside.buffer.items c.self.inside.start c.deref.ensures.value in
    let one_reply = rw c.in-Ended.is at c.serve_next-turned.ensures.one in
    rw (← c.self.view_is)
    (one.ends_answered s c.self.inside.limits c.self.inside.buffer.items c.self.inside.start c.self.inside.ended _ c.args.out.now.items c.serve_next-turned.new.out.items rest c.in_default.is c.in-Ended.ended one_reply)

pub returns-clause-steps : goal.returns-clause-steps
returns-clause-steps g c =
    let s = setting_of (g.S.Service.completed c.args.service.now) (g.S.Service.promise c.args.service.now) (g.S.Service.left c.args.service.now) g.A.Source.Source.feed c.args.worker.now in
    let rest = rest_is c.deref.result.now c.self.inside.buffer.items c.self.inside.start c.deref.ensures.value in
    let turned = rw c.in-Ended.is at c.serve_next-turned.ensures.turned in
    rw (← c.self.view_is)
    (one.ends_steps s c.self.inside.limits c.self.inside.buffer.items c.self.inside.start c.self.inside.ended _ c.args.out.now.items c.serve_next-turned.new.out.items rest c.in_default.is c.in-Ended.ended turned)

pub invariant_of-self-in-Waits : goal.invariant_of-self-in-Waits
invariant_of-self-in-Waits g c = (
  c.self.invariant.0,
  subst (λ (p : Progress). IsProgress c.self.inside.limits (drop c.self.inside.start c.self.inside.buffer.items) p) (sym c.replace-progress.ensures.after)
      (c.start.ensures c.self.inside.limits (drop c.self.inside.start c.self.inside.buffer.items)),
)

pub wait-requires-clause-behind : goal.wait-requires-clause-behind
wait-requires-clause-behind g c =
    let rest = rest_is c.deref.result.now c.self.inside.buffer.items c.self.inside.start c.deref.ensures.value in
    let step = rw c.in-Waits.is at c.serve_next-turned.ensures.turned in
    subst (λ (t : List ℕ). WaitsBehind c.self.inside.limits t (turned.Waits c.in-Waits.skipped c.in-Waits.progress)) rest step.0

pub returns-in-Waits-clause-made : goal.returns-in-Waits-clause-made
returns-in-Waits-clause-made g c =
    let s = setting_of (g.S.Service.completed c.args.service.now) (g.S.Service.promise c.args.service.now) (g.S.Service.left c.args.service.now) g.A.Source.Source.feed c.args.worker.now in
    let rest = rest_is c.deref.result.now c.self.inside.buffer.items c.self.inside.start c.deref.ensures.value in
    let made = rw c.in-Waits.is at c.serve_next-turned.ensures.made in
    rw (← c.self.view_is)
    (one.made_waits s c.self.inside.limits c.self.inside.buffer.items c.self.inside.start c.self.inside.ended _ c.args.out.now.items c.serve_next-turned.new.out.items rest c.in_default.is c.in-Waits.skipped c.args.worker.now.made c.serve_next-turned.new.worker.made _ made
    (wait_made (open_at c.self.inside.limits (drop c.in-Waits.skipped (drop c.self.inside.start c.self.inside.buffer.items))) c.wait.new.self c.wait.result c.wait.ensures))

pub returns-in-Waits-clause-limits : goal.returns-in-Waits-clause-limits
returns-in-Waits-clause-limits g c =
    rw (← c.self.view_is) (wait_limits (open_at c.self.inside.limits (drop c.in-Waits.skipped (drop c.self.inside.start c.self.inside.buffer.items))) c.wait.new.self c.wait.result c.wait.ensures)

pub returns-in-Waits-clause-waits : goal.returns-in-Waits-clause-waits
returns-in-Waits-clause-waits g c = wait_where (open_at c.self.inside.limits (drop c.in-Waits.skipped (drop c.self.inside.start c.self.inside.buffer.items))) c.wait.new.self c.wait.result c.wait.ensures

pub returns-in-Waits-clause-answered : goal.returns-in-Waits-clause-answered
returns-in-Waits-clause-answered g c =
    let s = setting_of (g.S.Service.completed c.args.service.now) (g.S.Service.promise c.args.service.now) (g.S.Service.left c.args.service.now) g.A.Source.Source.feed c.args.worker.now in
    let one_reply = rw c.in-Waits.is at c.serve_next-turned.ensures.one in
    rw (← c.self.view_is)
    (wait_answered s (record { limits = c.self.inside.limits; left = drop c.self.inside.start c.self.inside.buffer.items; ended = c.self.inside.ended }) (open_at c.self.inside.limits (drop c.in-Waits.skipped (drop c.self.inside.start c.self.inside.buffer.items))) c.wait.new.self c.args.out.now.items c.serve_next-turned.new.out.items c.wait.result c.in_default.is one_reply c.wait.ensures)

pub returns-in-Waits-clause-steps : goal.returns-in-Waits-clause-steps
returns-in-Waits-clause-steps g c =
    let s = setting_of (g.S.Service.completed c.args.service.now) (g.S.Service.promise c.args.service.now) (g.S.Service.left c.args.service.now) g.A.Source.Source.feed c.args.worker.now in
    let rest = rest_is c.deref.result.now c.self.inside.buffer.items c.self.inside.start c.deref.ensures.value in
    let turned = rw c.in-Waits.is at c.serve_next-turned.ensures.turned in
    rw (← c.self.view_is)
    (one.waits_steps s c.self.inside.limits c.self.inside.buffer.items c.self.inside.start c.self.inside.ended _ c.args.out.now.items c.serve_next-turned.new.out.items rest c.in_default.is c.in-Waits.skipped c.in-Waits.progress c.wait.new.self c.wait.result turned c.wait.ensures)
