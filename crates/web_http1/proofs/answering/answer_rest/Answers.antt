use Rattle.std.proofs.Common.{ℕ, ◌+◌, ◌-◌, ◌∙◌, List, length, take, drop, refl, sym, ap, subst, arith, length-drop}
use Rattle.std.proofs.lemmas.List.{drop-drop, take_rest}
use Rattle.std.specs.Prelude.{None}
use Rattle.web_messages.specs.Progress.{HasFewBlank, IsProgress, IsShort}
use Rattle.web_request.specs.Pool.{Pool}
use Rattle.web_worker.specs.PlanPools.{with_records}
use Rattle.web_worker.specs.Exchanges.{request_of}
use Rattle.web_worker.specs.Setting.{setting_of}
use Rattle.web_http1.specs.Connections.{AllOpen, ended_at, open_at}
use Rattle.web_http1.proofs.ConnectionLemmas.{end_steps, rest_steps, steps_as, waits_steps}
use Rattle.web_http1.proofs.answering.answer_rest.Goals as goal

pub messages-init : goal.messages-init
messages-init g c =
    let s = setting_of (g.S.Service.completed c.args.service.now) (g.S.Service.promise c.args.service.now) (g.S.Service.left c.args.service.now) g.A.Source.Source.feed c.args.worker.now in
    record {
      ready = c.requires.ready;
      same_promises = g.met.S.Service.same_itself c.args.service.now;
      least = omega arith;
      inside = c.requires.start;
      progress = c.requires.progress;
      made = omega arith;
      kept = refl;
      steps = waits_steps s (open_at c.args.limits.now (drop c.args.start c.args.buffer.now)) (open_at c.args.limits.now (drop c.args.start c.args.buffer.now)) _ _ refl refl refl;
    }

pub serve_next-requires-clause-progress : goal.serve_next-requires-clause-progress
serve_next-requires-clause-progress g c =
    subst (λ (t : List ℕ). IsProgress c.args.limits.now t c.messages.progress) (sym (take_rest c.args.buffer.now c.messages.place)) c.messages.invariant.progress

pub serve_next-requires-clause-room : goal.serve_next-requires-clause-room
serve_next-requires-clause-room g c =
    let size = ap length (take_rest c.args.buffer.now c.messages.place) ∙ length-drop c.messages.place c.args.buffer.now in
    let made = c.messages.invariant.made in
    let room = c.requires.room in
    omega (arith, size, made, room)

pub messages-preserved : goal.messages-preserved
messages-preserved g c =
    let s = setting_of (g.S.Service.completed c.args.service.now) (g.S.Service.promise c.args.service.now) (g.S.Service.left c.args.service.now) g.A.Source.Source.feed c.args.worker.now in
    let size = ap length (take_rest c.args.buffer.now c.messages.place) ∙ length-drop c.messages.place c.args.buffer.now in
    let rest = take (length c.args.buffer.now - c.messages.place) (drop c.messages.place c.args.buffer.now) in
    let turned = rw c.messages.invariant.kept at c.in-Goes.ensures.turned in
    let step = steps_as g.A.Source.Source.feed (request_of c.args.worker.now) (g.S.Service.completed c.args.service.now) (g.S.Service.completed c.messages.service)
    (g.S.Service.promise c.args.service.now) (g.S.Service.promise c.messages.service) (g.S.Service.left c.args.service.now) (g.S.Service.left c.messages.service) (g.met.S.Service.keeps c.args.service.now c.messages.service c.messages.invariant.same_promises) (open_at c.args.limits.now rest) (open_at c.args.limits.now (drop c.in-Goes.used rest)) c.messages.out.items c.serve_next.new.out.items turned.2 in
    record {
      ready = c.in-Goes.ensures.ready;
      same_promises = g.met.S.Service.same_on _ _ _ c.messages.invariant.same_promises c.in-Goes.ensures.same_promises;
      least = let least = c.messages.invariant.least in omega (arith, least);
      inside = let within = turned.1 in omega (arith, size, within);
      progress = c.start-progress.ensures c.args.limits.now (drop (c.messages.place + c.in-Goes.used) c.args.buffer.now);
      made =
          let made = c.messages.invariant.made in
          let more = c.in-Goes.ensures.made in
          let within = turned.1 in
          omega (arith, size, made, more, within);
      kept = c.in-Goes.ensures.kept ∙ ap (λ (z : Pool _). with_records c.serve_next.new.worker.serials c.serve_next.new.worker.made z) c.messages.invariant.kept;
      steps = rest_steps s c.args.limits.now c.args.buffer.now (drop c.args.start c.args.buffer.now) c.messages.place c.in-Goes.used rest None c.args.out.now.items c.messages.out.items c.serve_next.new.out.items
          (take_rest c.args.buffer.now c.messages.place) c.messages.invariant.steps step;
    }

pub messages-smaller : goal.messages-smaller
messages-smaller g c =
    let size = ap length (take_rest c.args.buffer.now c.messages.place) ∙ length-drop c.messages.place c.args.buffer.now in
    let some = c.in-Goes.ensures.turned.0 in
    let within = c.in-Goes.ensures.turned.1 in
    omega (arith, size, some, within)

pub returns-in-Waits : goal.returns-in-Waits
returns-in-Waits g c =
    let s = setting_of (g.S.Service.completed c.args.service.now) (g.S.Service.promise c.args.service.now) (g.S.Service.left c.args.service.now) g.A.Source.Source.feed c.args.worker.now in
    let size = ap length (take_rest c.args.buffer.now c.messages.place) ∙ length-drop c.messages.place c.args.buffer.now in
    let rest = take (length c.args.buffer.now - c.messages.place) (drop c.messages.place c.args.buffer.now) in
    let there = ap (drop c.in-Waits.skipped) (take_rest c.args.buffer.now c.messages.place) ∙ drop-drop c.in-Waits.skipped c.messages.place c.args.buffer.now in
    let turned = rw c.messages.invariant.kept at c.in-Waits.ensures.turned in
    let step = steps_as g.A.Source.Source.feed (request_of c.args.worker.now) (g.S.Service.completed c.args.service.now) (g.S.Service.completed c.messages.service)
    (g.S.Service.promise c.args.service.now) (g.S.Service.promise c.messages.service) (g.S.Service.left c.args.service.now) (g.S.Service.left c.messages.service) (g.met.S.Service.keeps c.args.service.now c.messages.service c.messages.invariant.same_promises) (open_at c.args.limits.now rest) (open_at c.args.limits.now (drop c.in-Waits.skipped rest)) c.messages.out.items c.serve_next.new.out.items turned.1 in
    let within = turned.0.0.inside in
    record {
      ready = c.in-Waits.ensures.ready;
      same_promises = g.met.S.Service.same_on _ _ _ c.messages.invariant.same_promises c.in-Waits.ensures.same_promises;
      place = let least = c.messages.invariant.least in (omega (arith, least), omega (arith, size, within));
      made =
          let made = c.messages.invariant.made in
          let more = c.in-Waits.ensures.made in
          omega (arith, size, made, more, within);
      kept = c.in-Waits.ensures.kept ∙ ap (λ (z : Pool _). with_records c.serve_next.new.worker.serials c.serve_next.new.worker.made z) c.messages.invariant.kept;
      left = (
        subst (λ (t : List ℕ). IsProgress c.args.limits.now t c.in-Waits.progress) there turned.0.0.is_progress,
        subst (AllOpen c.args.limits.now) there turned.0.1,
        subst (HasFewBlank c.args.limits.now) there turned.0.0.few,
        subst (λ (t : List ℕ). IsShort c.args.limits.now t c.in-Waits.progress) there turned.0.2,
        rest_steps s c.args.limits.now c.args.buffer.now (drop c.args.start c.args.buffer.now) c.messages.place c.in-Waits.skipped rest None c.args.out.now.items c.messages.out.items c.serve_next.new.out.items
            (take_rest c.args.buffer.now c.messages.place) c.messages.invariant.steps step,
      );
    }

pub returns-in-Ended : goal.returns-in-Ended
returns-in-Ended g c =
    let s = setting_of (g.S.Service.completed c.args.service.now) (g.S.Service.promise c.args.service.now) (g.S.Service.left c.args.service.now) g.A.Source.Source.feed c.args.worker.now in
    let size = ap length (take_rest c.args.buffer.now c.messages.place) ∙ length-drop c.messages.place c.args.buffer.now in
    let rest = take (length c.args.buffer.now - c.messages.place) (drop c.messages.place c.args.buffer.now) in
    let turned = rw c.messages.invariant.kept at c.in-Ended.ensures.turned in
    let step = steps_as g.A.Source.Source.feed (request_of c.args.worker.now) (g.S.Service.completed c.args.service.now) (g.S.Service.completed c.messages.service)
    (g.S.Service.promise c.args.service.now) (g.S.Service.promise c.messages.service) (g.S.Service.left c.args.service.now) (g.S.Service.left c.messages.service) (g.met.S.Service.keeps c.args.service.now c.messages.service c.messages.invariant.same_promises) (open_at c.args.limits.now rest) (ended_at c.args.limits.now rest c.in-Ended.ended) c.messages.out.items c.serve_next.new.out.items turned.1 in
    record {
      ready = c.in-Ended.ensures.ready;
      same_promises = g.met.S.Service.same_on _ _ _ c.messages.invariant.same_promises c.in-Ended.ensures.same_promises;
      place = (c.messages.invariant.least, c.messages.invariant.inside);
      made =
          let made = c.messages.invariant.made in
          let more = c.in-Ended.ensures.made in
          omega (arith, size, made, more);
      kept = c.in-Ended.ensures.kept ∙ ap (λ (z : Pool _). with_records c.serve_next.new.worker.serials c.serve_next.new.worker.made z) c.messages.invariant.kept;
      left = (
        turned.0,
        end_steps s c.args.limits.now c.args.buffer.now (drop c.args.start c.args.buffer.now) c.messages.place rest c.in-Ended.ended c.args.out.now.items c.messages.out.items c.serve_next.new.out.items
            (take_rest c.args.buffer.now c.messages.place) c.messages.invariant.steps step,
      );
    }
