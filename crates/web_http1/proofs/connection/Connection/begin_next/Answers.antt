use Rattle.std.proofs.Common.{◌+◌, ◌≤◌, ap, ◌∙◌, length, subst, sym}
use Rattle.web_worker.specs.Setting.{setting_of}
use Rattle.web_http1.specs.BegunAnswers.{BeginsNext, BegunSteps, BegunWaits, IsInside, TurnsTo, after_begun, after_reply}
use Rattle.web_http1.specs.Connections.{ConnectionView, bytes_open}
use Rattle.web_http1.proofs.BegunLemmas as of
use Rattle.web_http1.proofs.connection.Connection.begin_next.Goals as goal

pub begin-requires-clause-room : goal.begin-requires-clause-room
begin-requires-clause-room g c =
    of.room_left c.args.self c.args.worker.now.made 18446744073709551616 (sym c.in_default.ensures) c.requires.room

pub after_reply-requires : goal.after_reply-requires
after_reply-requires g c =
    let s = setting_of (g.S.Service.completed c.args.service.now) (g.S.Service.promise c.args.service.now) (g.S.Service.left c.args.service.now) g.A.Source.Source.feed c.args.worker.now in
    record {
      inside = subst (λ (v : ConnectionView). c.in-Begun.used ≤ length v.left) (sym c.in-Begun.ensures.same)
          (of.fits s c.args.settings.now c.args.self c.args.out.now.items c.begin.new.out.items c.in-Begun.used c.in-Begun.reply.closes c.in-Begun.reply.due c.in-Begun.ensures.one);
    }

pub after_turn-requires-clause-unended : goal.after_turn-requires-clause-unended
after_turn-requires-clause-unended g c =
    ap (λ (v : ConnectionView). v.ended) c.in-Turned.ensures.same ∙ sym c.in_default.ensures

pub after_turn-requires-clause-inside : goal.after_turn-requires-clause-inside
after_turn-requires-clause-inside g c =
    let s = setting_of (g.S.Service.completed c.args.service.now) (g.S.Service.promise c.args.service.now) (g.S.Service.left c.args.service.now) g.A.Source.Source.feed c.args.worker.now in
    subst (λ (v : ConnectionView). IsInside v c.in-Turned.turned) (sym c.in-Turned.ensures.same)
    (of.turn_inside s c.args.settings.now c.args.self c.args.out.now.items c.begin.new.out.items c.in-Turned.turned c.in-Turned.ensures.one.0 c.in-Turned.ensures.one.2)

pub returns-in-Begun-clause-made : goal.returns-in-Begun-clause-made
returns-in-Begun-clause-made g c =
    let s = setting_of (g.S.Service.completed c.args.service.now) (g.S.Service.promise c.args.service.now) (g.S.Service.left c.args.service.now) g.A.Source.Source.feed c.args.worker.now in
    let unended = sym c.in_default.ensures in
    let used = c.in-Begun.used in
    let closes = c.in-Begun.reply.closes in
    let due = c.in-Begun.reply.due in
    let one = c.in-Begun.ensures.one in
    let is = c.after_reply.ensures ∙ ap (λ (v : ConnectionView). after_reply v used closes due) c.in-Begun.ensures.same in
    subst (λ r. c.begin.new.worker.made + bytes_open (after_begun r) ≤ c.args.worker.now.made + bytes_open c.args.self) (sym is)
    (of.reply_made c.args.self used closes due c.args.worker.now.made c.begin.new.worker.made unended c.in-Begun.ensures.made)

pub returns-in-Begun-clause-limits : goal.returns-in-Begun-clause-limits
returns-in-Begun-clause-limits g c =
    let s = setting_of (g.S.Service.completed c.args.service.now) (g.S.Service.promise c.args.service.now) (g.S.Service.left c.args.service.now) g.A.Source.Source.feed c.args.worker.now in
    let unended = sym c.in_default.ensures in
    let used = c.in-Begun.used in
    let closes = c.in-Begun.reply.closes in
    let due = c.in-Begun.reply.due in
    let one = c.in-Begun.ensures.one in
    let is = c.after_reply.ensures ∙ ap (λ (v : ConnectionView). after_reply v used closes due) c.in-Begun.ensures.same in
    ap (λ r. (after_begun r).limits) is ∙ of.reply_limits c.args.self used closes due

pub returns-in-Begun-clause-waits : goal.returns-in-Begun-clause-waits
returns-in-Begun-clause-waits g c =
    let s = setting_of (g.S.Service.completed c.args.service.now) (g.S.Service.promise c.args.service.now) (g.S.Service.left c.args.service.now) g.A.Source.Source.feed c.args.worker.now in
    let unended = sym c.in_default.ensures in
    let used = c.in-Begun.used in
    let closes = c.in-Begun.reply.closes in
    let due = c.in-Begun.reply.due in
    let one = c.in-Begun.ensures.one in
    let is = c.after_reply.ensures ∙ ap (λ (v : ConnectionView). after_reply v used closes due) c.in-Begun.ensures.same in
    subst (λ r. BegunWaits r) (sym is) (of.reply_waits c.args.self used closes due)

pub returns-in-Begun-clause-begun : goal.returns-in-Begun-clause-begun
returns-in-Begun-clause-begun g c =
    let s = setting_of (g.S.Service.completed c.args.service.now) (g.S.Service.promise c.args.service.now) (g.S.Service.left c.args.service.now) g.A.Source.Source.feed c.args.worker.now in
    let unended = sym c.in_default.ensures in
    let used = c.in-Begun.used in
    let closes = c.in-Begun.reply.closes in
    let due = c.in-Begun.reply.due in
    let one = c.in-Begun.ensures.one in
    let is = c.after_reply.ensures ∙ ap (λ (v : ConnectionView). after_reply v used closes due) c.in-Begun.ensures.same in
    subst (λ r. BeginsNext s c.args.settings.now c.args.self c.args.out.now.items c.begin.new.out.items r) (sym is)
    (of.reply_next s c.args.settings.now c.args.self c.args.out.now.items c.begin.new.out.items used closes due unended one)

pub returns-in-Begun-clause-steps : goal.returns-in-Begun-clause-steps
returns-in-Begun-clause-steps g c =
    let s = setting_of (g.S.Service.completed c.args.service.now) (g.S.Service.promise c.args.service.now) (g.S.Service.left c.args.service.now) g.A.Source.Source.feed c.args.worker.now in
    let unended = sym c.in_default.ensures in
    let used = c.in-Begun.used in
    let closes = c.in-Begun.reply.closes in
    let due = c.in-Begun.reply.due in
    let one = c.in-Begun.ensures.one in
    let is = c.after_reply.ensures ∙ ap (λ (v : ConnectionView). after_reply v used closes due) c.in-Begun.ensures.same in
    λ off all. subst (λ r. BegunSteps s c.args.self c.args.out.now.items c.begin.new.out.items r) (sym is)
    (of.reply_goes s c.args.settings.now off all c.args.self used c.args.out.now.items c.begin.new.out.items closes due unended one)

pub returns-in-Turned-clause-made : goal.returns-in-Turned-clause-made
returns-in-Turned-clause-made g c =
    let s = setting_of (g.S.Service.completed c.args.service.now) (g.S.Service.promise c.args.service.now) (g.S.Service.left c.args.service.now) g.A.Source.Source.feed c.args.worker.now in
    let unended = sym c.in_default.ensures in
    let turned = c.in-Turned.turned in
    let one = c.in-Turned.ensures.one in
    let to = subst (λ (v : ConnectionView). TurnsTo v turned c.after_turn.result) c.in-Turned.ensures.same c.after_turn.ensures in
    of.turn_made c.args.self turned c.after_turn.result c.args.worker.now.made c.begin.new.worker.made unended to c.in-Turned.ensures.made

pub returns-in-Turned-clause-limits : goal.returns-in-Turned-clause-limits
returns-in-Turned-clause-limits g c =
    let s = setting_of (g.S.Service.completed c.args.service.now) (g.S.Service.promise c.args.service.now) (g.S.Service.left c.args.service.now) g.A.Source.Source.feed c.args.worker.now in
    let unended = sym c.in_default.ensures in
    let turned = c.in-Turned.turned in
    let one = c.in-Turned.ensures.one in
    let to = subst (λ (v : ConnectionView). TurnsTo v turned c.after_turn.result) c.in-Turned.ensures.same c.after_turn.ensures in
    of.turn_limits c.args.self turned c.after_turn.result to

pub returns-in-Turned-clause-waits : goal.returns-in-Turned-clause-waits
returns-in-Turned-clause-waits g c =
    let s = setting_of (g.S.Service.completed c.args.service.now) (g.S.Service.promise c.args.service.now) (g.S.Service.left c.args.service.now) g.A.Source.Source.feed c.args.worker.now in
    let unended = sym c.in_default.ensures in
    let turned = c.in-Turned.turned in
    let one = c.in-Turned.ensures.one in
    let to = subst (λ (v : ConnectionView). TurnsTo v turned c.after_turn.result) c.in-Turned.ensures.same c.after_turn.ensures in
    of.turn_waits s c.args.settings.now c.args.self c.args.out.now.items c.begin.new.out.items turned c.after_turn.result to

pub returns-in-Turned-clause-begun : goal.returns-in-Turned-clause-begun
returns-in-Turned-clause-begun g c =
    let s = setting_of (g.S.Service.completed c.args.service.now) (g.S.Service.promise c.args.service.now) (g.S.Service.left c.args.service.now) g.A.Source.Source.feed c.args.worker.now in
    let unended = sym c.in_default.ensures in
    let turned = c.in-Turned.turned in
    let one = c.in-Turned.ensures.one in
    let to = subst (λ (v : ConnectionView). TurnsTo v turned c.after_turn.result) c.in-Turned.ensures.same c.after_turn.ensures in
    of.turn_next s c.args.settings.now c.args.self c.args.out.now.items c.begin.new.out.items turned c.after_turn.result unended one.0 one.2 to

pub returns-in-Turned-clause-steps : goal.returns-in-Turned-clause-steps
returns-in-Turned-clause-steps g c =
    let s = setting_of (g.S.Service.completed c.args.service.now) (g.S.Service.promise c.args.service.now) (g.S.Service.left c.args.service.now) g.A.Source.Source.feed c.args.worker.now in
    let unended = sym c.in_default.ensures in
    let turned = c.in-Turned.turned in
    let one = c.in-Turned.ensures.one in
    let to = subst (λ (v : ConnectionView). TurnsTo v turned c.after_turn.result) c.in-Turned.ensures.same c.after_turn.ensures in
    λ off all. of.turn_goes s c.args.settings.now c.args.self c.args.out.now.items c.begin.new.out.items turned c.after_turn.result unended one.0 (one.1 off) to
