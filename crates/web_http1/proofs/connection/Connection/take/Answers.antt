use Rattle.std.proofs.Common.{◌+◌, ◌<◌, ◌≤◌, ◌∙◌, ℕ, ap, arith, subst, sym}
use Rattle.web_worker.specs.Setting.{setting_of}
use Rattle.web_http1.specs.Connections.{ConnectionView, StepsFrom, bytes_open}
use Rattle.web_http1.proofs.InPlaceLemmas.{open_alone, steps_alone}
use Rattle.web_http1.proofs.connection.Connection.take.Goals as goal

pub answer_in_place-requires-clause-unended : goal.answer_in_place-requires-clause-unended
answer_in_place-requires-clause-unended g c = (c.is_fresh.ensures c.if-is_fresh.true).0

pub answer_in_place-requires-clause-empty : goal.answer_in_place-requires-clause-empty
answer_in_place-requires-clause-empty g c = (c.is_fresh.ensures c.if-is_fresh.true).1

pub answer_in_place-requires-clause-room : goal.answer_in_place-requires-clause-room
answer_in_place-requires-clause-room g c =
    let fresh = c.is_fresh.ensures c.if-is_fresh.true in
    subst (λ (n : ℕ). c.args.worker.now.made + n < 18446744073709551616) (open_alone c.args.self.now c.args.piece.now fresh.0 fresh.1) c.requires.room

pub returns-then-is_fresh-clause-made : goal.returns-then-is_fresh-clause-made
returns-then-is_fresh-clause-made g c =
    let fresh = c.is_fresh.ensures c.if-is_fresh.true in
    subst (λ (n : ℕ). c.answer_in_place.new.worker.made + bytes_open c.answer_in_place.new.self ≤ c.args.worker.now.made + n)
    (sym (open_alone c.args.self.now c.args.piece.now fresh.0 fresh.1)) c.answer_in_place.ensures.made

pub returns-then-is_fresh-clause-waits : goal.returns-then-is_fresh-clause-waits
returns-then-is_fresh-clause-waits g c = λ open'. (c.answer_in_place.ensures.waits open').0 open'

pub returns-then-is_fresh-clause-few : goal.returns-then-is_fresh-clause-few
returns-then-is_fresh-clause-few g c = λ open'. (c.answer_in_place.ensures.waits open').1

pub returns-then-is_fresh-clause-keeps : goal.returns-then-is_fresh-clause-keeps
returns-then-is_fresh-clause-keeps g c = λ open'. (c.answer_in_place.ensures.waits open').2

pub returns-then-is_fresh-clause-steps : goal.returns-then-is_fresh-clause-steps
returns-then-is_fresh-clause-steps g c =
    let s = setting_of (g.S.Service.completed c.args.service.now) (g.S.Service.promise c.args.service.now) (g.S.Service.left c.args.service.now) g.A.Source.Source.feed c.args.worker.now in
    let fresh = c.is_fresh.ensures c.if-is_fresh.true in
    steps_alone s c.args.self.now c.answer_in_place.new.self c.args.piece.now c.args.out.now.items c.answer_in_place.new.out.items fresh.0 fresh.1
    c.answer_in_place.ensures.steps

pub answer-requires-clause-room : goal.answer-requires-clause-room
answer-requires-clause-room g c =
    subst (λ (v : ConnectionView). c.args.worker.now.made + bytes_open v < 18446744073709551616) (sym c.in-Ok.ensures.ok) c.requires.room

pub returns-in-Ok-clause-made : goal.returns-in-Ok-clause-made
returns-in-Ok-clause-made g c =
    subst (λ (v : ConnectionView). c.answer.new.worker.made + bytes_open c.answer.new.self ≤ c.args.worker.now.made + bytes_open v) c.in-Ok.ensures.ok
    c.answer.ensures.made

pub returns-in-Ok-clause-limits : goal.returns-in-Ok-clause-limits
returns-in-Ok-clause-limits g c = c.answer.ensures.limits ∙ ap (λ (v : ConnectionView). v.limits) c.in-Ok.ensures.ok

pub returns-in-Ok-clause-own : goal.returns-in-Ok-clause-own
returns-in-Ok-clause-own g c = λ unended. c.answer.ensures.own (ap (λ (v : ConnectionView). v.ended) c.in-Ok.ensures.ok ∙ unended)

pub returns-in-Ok-clause-steps : goal.returns-in-Ok-clause-steps
returns-in-Ok-clause-steps g c =
    let s = setting_of (g.S.Service.completed c.args.service.now) (g.S.Service.promise c.args.service.now) (g.S.Service.left c.args.service.now) g.A.Source.Source.feed c.args.worker.now in
    subst (λ (v : ConnectionView). StepsFrom s v c.answer.new.self c.args.out.now.items c.answer.new.out.items) c.in-Ok.ensures.ok c.answer.ensures.steps
