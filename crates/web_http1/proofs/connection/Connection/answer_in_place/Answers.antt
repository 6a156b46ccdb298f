use Rattle.std.proofs.Common.{◌≡◌, ◌+◌, ◌-◌, ◌≤◌, ◌∙◌, [], List, None, ℕ, ap, arith, drop, length, length-drop, subst, sym, take}
use Rattle.std.proofs.lemmas.List.{take_rest}
use Rattle.web_worker.specs.Setting.{setting_of}
use Rattle.web_http1.specs.Connections.{ConnectionView, IsOwnEnd, bytes_open}
use Rattle.web_http1.proofs.InPlaceLemmas.{behind_place, place_ends, place_goes, rest_limits, rest_made, rest_own, rest_waits}
use Rattle.web_http1.proofs.connection.Connection.answer_in_place.Goals as goal

pub answer_rest-answered-requires-clause-progress : goal.answer_rest-answered-requires-clause-progress
answer_rest-answered-requires-clause-progress g c = c.start.ensures c.self.inside.limits (drop 0 c.args.piece.now)

pub keep-requires-clause-unended : goal.keep-requires-clause-unended
keep-requires-clause-unended g c = subst (λ (v : ConnectionView). v.ended ≡ None) (sym c.self.view_is) c.requires.unended

pub keep-requires-clause-empty : goal.keep-requires-clause-empty
keep-requires-clause-empty g c = subst (λ (v : ConnectionView). v.left ≡ []) (sym c.self.view_is) c.requires.empty

pub keep-requires-clause-behind : goal.keep-requires-clause-behind
keep-requires-clause-behind g c =
    let place = c.answer_rest-answered.result.place in
    let left = rw c.in-Open.is at c.answer_rest-answered.ensures.left in
    rw c.in-Open.is
    (behind_place c.self.inside.limits (take (length c.args.piece.now - place) (drop place c.args.piece.now)) (drop place c.args.piece.now) c.in-Open.progress
    (take_rest c.args.piece.now place) left.0 left.1 left.2 left.3)

pub returns-in-Open-clause-made : goal.returns-in-Open-clause-made
returns-in-Open-clause-made g c =
    let place = c.answer_rest-answered.result.place in
    let rest = take (length c.args.piece.now - place) (drop place c.args.piece.now) in
    let made = rw c.in-Open.is at c.answer_rest-answered.ensures.made in
    let few = rest_made c.self.inside.limits rest c.keep.new.self c.keep.result c.keep.ensures in
    let size = ap length (take_rest c.args.piece.now place) ∙ length-drop place c.args.piece.now in
    omega (arith, made, few, size)

pub returns-in-Open-clause-limits : goal.returns-in-Open-clause-limits
returns-in-Open-clause-limits g c =
    let place = c.answer_rest-answered.result.place in
    let rest = take (length c.args.piece.now - place) (drop place c.args.piece.now) in
    rw (← c.self.view_is) (rest_limits c.self.inside.limits rest c.keep.new.self c.keep.result c.keep.ensures)

pub returns-in-Open-clause-waits : goal.returns-in-Open-clause-waits
returns-in-Open-clause-waits g c =
    let place = c.answer_rest-answered.result.place in
    let rest = take (length c.args.piece.now - place) (drop place c.args.piece.now) in
    rest_waits c.self.inside.limits rest c.keep.new.self c.keep.result c.keep.ensures

pub returns-in-Open-clause-own : goal.returns-in-Open-clause-own
returns-in-Open-clause-own g c =
    let place = c.answer_rest-answered.result.place in
    let rest = take (length c.args.piece.now - place) (drop place c.args.piece.now) in
    rest_own c.self.inside.limits rest c.keep.new.self c.keep.result c.keep.ensures

pub returns-in-Open-clause-steps : goal.returns-in-Open-clause-steps
returns-in-Open-clause-steps g c =
    let s = setting_of (g.S.Service.completed c.args.service.now) (g.S.Service.promise c.args.service.now) (g.S.Service.left c.args.service.now) g.A.Source.Source.feed c.args.worker.now in
    let place = c.answer_rest-answered.result.place in
    let rest = take (length c.args.piece.now - place) (drop place c.args.piece.now) in
    let left = rw c.in-Open.is at c.answer_rest-answered.ensures.left in
    rw (← c.self.view_is)
    (place_goes s c.self.inside.limits c.args.piece.now rest (drop place c.args.piece.now) c.keep.new.self c.args.out.now.items c.answer_rest-answered.new.out.items
    c.keep.result (take_rest c.args.piece.now place) left.4 c.keep.ensures)

pub returns-in-Ended-clause-own : goal.returns-in-Ended-clause-own
returns-in-Ended-clause-own g c =
    let left = rw c.in-Ended.is at c.answer_rest-answered.ensures.left in
    subst (λ (v : ConnectionView). IsOwnEnd v.ended) (sym c.end.ensures) left.0

pub returns-in-Ended-clause-steps : goal.returns-in-Ended-clause-steps
returns-in-Ended-clause-steps g c =
    let s = setting_of (g.S.Service.completed c.args.service.now) (g.S.Service.promise c.args.service.now) (g.S.Service.left c.args.service.now) g.A.Source.Source.feed c.args.worker.now in
    let place = c.answer_rest-answered.result.place in
    let left = rw c.in-Ended.is at c.answer_rest-answered.ensures.left in
    rw (← c.self.view_is)
    (place_ends s c.self.inside.limits c.args.piece.now (drop c.self.inside.start c.self.inside.buffer.items) (drop place c.args.piece.now) c.in-Ended.ended c.end.new.self
    c.args.out.now.items c.answer_rest-answered.new.out.items c.end.ensures left.1)
