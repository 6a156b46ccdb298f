use Rattle.std.proofs.Common.{ℕ, ◌∙◌, [], length, refl, ap, subst, arith, inl}
use Rattle.web_texts.specs.Counts.{Rose}
use Rattle.web_request.specs.Pool.{Pool}
use Rattle.web_worker.specs.PlanPools.{with_records}
use Rattle.web_worker.specs.Exchanges.{request_of}
use Rattle.web_worker.specs.Setting.{setting_of}
use Rattle.web_messages.specs.declared.limits.Limits.{Limits}
use Rattle.web_http1.specs.Connections.{ConnectionView, FinishesWith, ended_at}
use Rattle.web_http1.specs.ConnectionSteps.{with_piece}
use Rattle.web_http1.proofs.ConnectionLemmas.{steps_as}
use Rattle.web_http1.proofs.ServingLemmas.{appends_finished, appends_none, appends_then, ended_all, ended_up_to, failed_up_to, finished, finishes_open, is_faultless, is_faulty, lacks_memory, last_fault, none_after, pieced, stalled, starts, stops_finished, stops_own, unless_lacking, waits_empty}
use Rattle.web_http1.proofs.serving.serve_connection_with.Goals as goal

pub turns-init : goal.turns-init
turns-init g c =
    let s = setting_of (g.S.Service.completed c.args.service.now) (g.S.Service.promise c.args.service.now) (g.S.Service.left c.args.service.now) g.A.Source.Source.feed c.args.worker.now in
    let is_new = c.with_room-connection.ensures in
    record {
      ready = c.requires.ready;
      same_promises = g.met.S.Service.same_itself c.args.service.now;
      unended = ap (λ (k : ConnectionView). k.ended) is_new;
      limits_are = ap (λ (k : ConnectionView). k.limits) is_new;
      waits = waits_empty c.args.limits c.with_room-connection.result is_new;
      given = omega arith;
      made = let none = ap (λ (k : ConnectionView). length k.left) is_new in omega (arith, none);
      kept = refl;
      faults = refl;
      lacked = refl;
      grows = appends_none c.args.out.now.items;
      so_far = λ marks is.
          starts s c.args.limits marks (g.I.Source.feed c.args.source.now) c.with_room-connection.result c.args.out.now.items is
          (ap (λ (k : ConnectionView). k.limits) is_new) (ap (λ (k : ConnectionView). k.left) is_new) (ap (λ (k : ConnectionView). k.ended) is_new);
    }

pub take_piece-ended-requires-clause-unended : goal.take_piece-ended-requires-clause-unended
take_piece-ended-requires-clause-unended g c = c.turns.invariant.unended

pub take_piece-ended-requires-clause-ready : goal.take_piece-ended-requires-clause-ready
take_piece-ended-requires-clause-ready g c = c.turns.invariant.ready

pub take_piece-ended-requires-clause-room : goal.take_piece-ended-requires-clause-room
take_piece-ended-requires-clause-room g c =
    let made = c.turns.invariant.made in
    let given = c.in-Piece.ensures.given in
    let bounded = c.in-Piece.ensures.bounded in
    let least = c.turns.invariant.given in
    let room = c.requires.room in
    omega (arith, made, given, bounded, least, room)

pub returns-in-Some-clause-same_promises : goal.returns-in-Some-clause-same_promises
returns-in-Some-clause-same_promises g c = g.met.S.Service.same_on _ _ _ c.turns.invariant.same_promises c.take_piece-ended.ensures.same_promises

pub returns-in-Some-clause-whole : goal.returns-in-Some-clause-whole
returns-in-Some-clause-whole g c = λ marks is no.
    let s = setting_of (g.S.Service.completed c.args.service.now) (g.S.Service.promise c.args.service.now) (g.S.Service.left c.args.service.now) g.A.Source.Source.feed c.args.worker.now in
    let takes = rw (c.turns.invariant.kept, c.in-Some.is) at c.take_piece-ended.ensures.takes in
    let step = steps_as g.A.Source.Source.feed (request_of c.args.worker.now) (g.S.Service.completed c.args.service.now) (g.S.Service.completed c.turns.service)
    (g.S.Service.promise c.args.service.now) (g.S.Service.promise c.turns.service) (g.S.Service.left c.args.service.now) (g.S.Service.left c.turns.service) (g.met.S.Service.keeps c.args.service.now c.turns.service c.turns.invariant.same_promises) (with_piece c.turns.connection c.in-Piece.piece) (ended_at c.turns.connection.limits [] c.in-Some.ended) c.turns.out.items c.take_piece-ended.new.out.items takes.1 in
    ended_all s c.args.limits marks (g.I.Source.feed c.next.new.self) (ended_at c.turns.connection.limits [] c.in-Some.ended) c.args.out.now.items c.take_piece-ended.new.out.items
    (pieced s c.args.limits marks (g.I.Source.feed c.turns.source) (g.I.Source.feed c.next.new.self) c.turns.connection c.args.out.now.items c.turns.out.items c.turns.invariant.unended c.turns.invariant.limits_are (c.turns.invariant.so_far marks is) c.in-Piece.piece (ended_at c.turns.connection.limits [] c.in-Some.ended) c.take_piece-ended.new.out.items refl c.in-Piece.ensures.next step)
    c.in-Some.ended refl c.turns.invariant.limits_are

pub returns-in-Some-clause-fault : goal.returns-in-Some-clause-fault
returns-in-Some-clause-fault g c = λ marks is yes.
    let s = setting_of (g.S.Service.completed c.args.service.now) (g.S.Service.promise c.args.service.now) (g.S.Service.left c.args.service.now) g.A.Source.Source.feed c.args.worker.now in
    let takes = rw (c.turns.invariant.kept, c.in-Some.is) at c.take_piece-ended.ensures.takes in
    let step = steps_as g.A.Source.Source.feed (request_of c.args.worker.now) (g.S.Service.completed c.args.service.now) (g.S.Service.completed c.turns.service)
    (g.S.Service.promise c.args.service.now) (g.S.Service.promise c.turns.service) (g.S.Service.left c.args.service.now) (g.S.Service.left c.turns.service) (g.met.S.Service.keeps c.args.service.now c.turns.service c.turns.invariant.same_promises) (with_piece c.turns.connection c.in-Piece.piece) (ended_at c.turns.connection.limits [] c.in-Some.ended) c.turns.out.items c.take_piece-ended.new.out.items takes.1 in
    ended_up_to s c.args.limits marks (g.I.Source.feed c.next.new.self) (ended_at c.turns.connection.limits [] c.in-Some.ended) c.args.out.now.items c.take_piece-ended.new.out.items
    (pieced s c.args.limits marks (g.I.Source.feed c.turns.source) (g.I.Source.feed c.next.new.self) c.turns.connection c.args.out.now.items c.turns.out.items c.turns.invariant.unended c.turns.invariant.limits_are (c.turns.invariant.so_far marks is) c.in-Piece.piece (ended_at c.turns.connection.limits [] c.in-Some.ended) c.take_piece-ended.new.out.items refl c.in-Piece.ensures.next step)
    c.in-Some.ended refl c.turns.invariant.limits_are

pub returns-in-Some-clause-faults : goal.returns-in-Some-clause-faults
returns-in-Some-clause-faults g c =
    let takes = rw c.in-Some.is at c.take_piece-ended.ensures.takes in
    stops_own c.in-Some.ended _ _ takes.0 (c.in-Piece.ensures.next.faults ∙ c.turns.invariant.faults)

pub returns-in-Some-clause-lacked : goal.returns-in-Some-clause-lacked
returns-in-Some-clause-lacked g c = unless_lacking c.in-Some.ended (c.in-Piece.ensures.next.lacked ∙ c.turns.invariant.lacked)

pub returns-in-Some-clause-made : goal.returns-in-Some-clause-made
returns-in-Some-clause-made g c =
    let made = c.take_piece-ended.ensures.made in
    let so_far = c.turns.invariant.made in
    let given = c.in-Piece.ensures.given in
    let least = c.turns.invariant.given in
    omega (arith, made, so_far, given, least)

pub returns-in-Some-clause-kept : goal.returns-in-Some-clause-kept
returns-in-Some-clause-kept g c = c.take_piece-ended.ensures.kept ∙ ap (λ (z : Pool _). with_records c.take_piece-ended.new.worker.serials c.take_piece-ended.new.worker.made z) c.turns.invariant.kept

pub turns-preserved-in_default : goal.turns-preserved-in_default
turns-preserved-in_default g c =
    let s = setting_of (g.S.Service.completed c.args.service.now) (g.S.Service.promise c.args.service.now) (g.S.Service.left c.args.service.now) g.A.Source.Source.feed c.args.worker.now in
    let takes = rw (c.turns.invariant.kept, c.in_default.is) at c.take_piece-ended.ensures.takes in
    let step = steps_as g.A.Source.Source.feed (request_of c.args.worker.now) (g.S.Service.completed c.args.service.now) (g.S.Service.completed c.turns.service)
    (g.S.Service.promise c.args.service.now) (g.S.Service.promise c.turns.service) (g.S.Service.left c.args.service.now) (g.S.Service.left c.turns.service) (g.met.S.Service.keeps c.args.service.now c.turns.service c.turns.invariant.same_promises) (with_piece c.turns.connection c.in-Piece.piece) c.take_piece-ended.new.connection c.turns.out.items c.take_piece-ended.new.out.items takes.3 in
    record {
      ready = c.take_piece-ended.ensures.ready;
      same_promises = g.met.S.Service.same_on _ _ _ c.turns.invariant.same_promises c.take_piece-ended.ensures.same_promises;
      unended = takes.0;
      limits_are = takes.1 ∙ c.turns.invariant.limits_are;
      waits = takes.2;
      given = let given = c.in-Piece.ensures.given in let least = c.turns.invariant.given in omega (arith, given, least);
      made =
          let made = rw c.in_default.is at c.take_piece-ended.ensures.made in
          let so_far = c.turns.invariant.made in
          let given = c.in-Piece.ensures.given in
          let least = c.turns.invariant.given in
          omega (arith, made, so_far, given, least);
      kept = c.take_piece-ended.ensures.kept ∙ ap (λ (z : Pool _). with_records c.take_piece-ended.new.worker.serials c.take_piece-ended.new.worker.made z) c.turns.invariant.kept;
      faults = c.in-Piece.ensures.next.faults ∙ c.turns.invariant.faults;
      lacked = c.in-Piece.ensures.next.lacked ∙ c.turns.invariant.lacked;
      grows = appends_then c.args.out.now.items c.turns.out.items c.take_piece-ended.new.out.items c.turns.invariant.grows (step.0, step.1);
      so_far = λ marks is.
          pieced s c.args.limits marks (g.I.Source.feed c.turns.source) (g.I.Source.feed c.next.new.self) c.turns.connection c.args.out.now.items c.turns.out.items c.turns.invariant.unended c.turns.invariant.limits_are (c.turns.invariant.so_far marks is) c.in-Piece.piece c.take_piece-ended.new.connection c.take_piece-ended.new.out.items takes.1 c.in-Piece.ensures.next step;
    }

pub turns-preserved-in_default-2 : goal.turns-preserved-in_default-2
turns-preserved-in_default-2 g c =
    let s = setting_of (g.S.Service.completed c.args.service.now) (g.S.Service.promise c.args.service.now) (g.S.Service.left c.args.service.now) g.A.Source.Source.feed c.args.worker.now in
    let takes = rw (c.turns.invariant.kept, c.in_default.is) at c.take_piece-ended.ensures.takes in
    let step = steps_as g.A.Source.Source.feed (request_of c.args.worker.now) (g.S.Service.completed c.args.service.now) (g.S.Service.completed c.turns.service)
    (g.S.Service.promise c.args.service.now) (g.S.Service.promise c.turns.service) (g.S.Service.left c.args.service.now) (g.S.Service.left c.turns.service) (g.met.S.Service.keeps c.args.service.now c.turns.service c.turns.invariant.same_promises) (with_piece c.turns.connection c.in-Piece.piece) c.take_piece-ended.new.connection c.turns.out.items c.take_piece-ended.new.out.items takes.3 in
    record {
      ready = c.take_piece-ended.ensures.ready;
      same_promises = g.met.S.Service.same_on _ _ _ c.turns.invariant.same_promises c.take_piece-ended.ensures.same_promises;
      unended = takes.0;
      limits_are = takes.1 ∙ c.turns.invariant.limits_are;
      waits = takes.2;
      given = let given = c.in-Piece.ensures.given in let least = c.turns.invariant.given in omega (arith, given, least);
      made =
          let made = rw c.in_default.is at c.take_piece-ended.ensures.made in
          let so_far = c.turns.invariant.made in
          let given = c.in-Piece.ensures.given in
          let least = c.turns.invariant.given in
          omega (arith, made, so_far, given, least);
      kept = c.take_piece-ended.ensures.kept ∙ ap (λ (z : Pool _). with_records c.take_piece-ended.new.worker.serials c.take_piece-ended.new.worker.made z) c.turns.invariant.kept;
      faults = c.in-Piece.ensures.next.faults ∙ c.turns.invariant.faults;
      lacked = c.in-Piece.ensures.next.lacked ∙ c.turns.invariant.lacked;
      grows = appends_then c.args.out.now.items c.turns.out.items c.take_piece-ended.new.out.items c.turns.invariant.grows (step.0, step.1);
      so_far = λ marks is.
          pieced s c.args.limits marks (g.I.Source.feed c.turns.source) (g.I.Source.feed c.next.new.self) c.turns.connection c.args.out.now.items c.turns.out.items c.turns.invariant.unended c.turns.invariant.limits_are (c.turns.invariant.so_far marks is) c.in-Piece.piece c.take_piece-ended.new.connection c.take_piece-ended.new.out.items takes.1 c.in-Piece.ensures.next step;
    }

pub turns-preserved : goal.turns-preserved
turns-preserved g c =
    let s = setting_of (g.S.Service.completed c.args.service.now) (g.S.Service.promise c.args.service.now) (g.S.Service.left c.args.service.now) g.A.Source.Source.feed c.args.worker.now in
    record {
      ready = c.turns.invariant.ready;
      same_promises = c.turns.invariant.same_promises;
      unended = c.turns.invariant.unended;
      limits_are = c.turns.invariant.limits_are;
      waits = c.turns.invariant.waits;
      given = let given = c.in-Stall.ensures.given in let least = c.turns.invariant.given in omega (arith, given, least);
      made =
          let so_far = c.turns.invariant.made in
          let given = c.in-Stall.ensures.given in
          omega (arith, so_far, given);
      kept = c.turns.invariant.kept;
      faults = c.in-Stall.ensures.next.faults ∙ c.turns.invariant.faults;
      lacked = c.in-Stall.ensures.next.lacked ∙ c.turns.invariant.lacked;
      grows = c.turns.invariant.grows;
      so_far = λ marks is. stalled s c.args.limits marks (g.I.Source.feed c.turns.source) (g.I.Source.feed c.next.new.self) c.turns.connection c.args.out.now.items c.turns.out.items c.turns.invariant.unended c.turns.invariant.limits_are (c.turns.invariant.so_far marks is) c.in-Stall.ensures.next;
    }

pub returns-in-Fault-clause-ready : goal.returns-in-Fault-clause-ready
returns-in-Fault-clause-ready g c = c.turns.invariant.ready

pub returns-in-Fault-clause-same_promises : goal.returns-in-Fault-clause-same_promises
returns-in-Fault-clause-same_promises g c = c.turns.invariant.same_promises

pub returns-in-Fault-clause-whole : goal.returns-in-Fault-clause-whole
returns-in-Fault-clause-whole g c = λ marks is no.
    let s = setting_of (g.S.Service.completed c.args.service.now) (g.S.Service.promise c.args.service.now) (g.S.Service.left c.args.service.now) g.A.Source.Source.feed c.args.worker.now in
    absurd (cc (is_faulty s c.args.limits marks (g.I.Source.feed c.turns.source) (g.I.Source.feed c.next.new.self) c.turns.connection c.args.out.now.items c.turns.out.items c.turns.invariant.unended c.turns.invariant.limits_are (c.turns.invariant.so_far marks is) c.in-Fault.ensures.next, no))

pub returns-in-Fault-clause-fault : goal.returns-in-Fault-clause-fault
returns-in-Fault-clause-fault g c = λ marks is yes.
    let s = setting_of (g.S.Service.completed c.args.service.now) (g.S.Service.promise c.args.service.now) (g.S.Service.left c.args.service.now) g.A.Source.Source.feed c.args.worker.now in
    failed_up_to s c.args.limits marks (g.I.Source.feed c.turns.source) c.turns.connection c.args.out.now.items c.turns.out.items (c.turns.invariant.so_far marks is) c.turns.invariant.unended c.turns.invariant.limits_are c.turns.invariant.waits
    (last_fault s c.args.limits marks (g.I.Source.feed c.turns.source) (g.I.Source.feed c.next.new.self) c.turns.connection c.args.out.now.items c.turns.out.items c.turns.invariant.unended c.turns.invariant.limits_are (c.turns.invariant.so_far marks is) c.in-Fault.ensures.next)

pub returns-in-Fault-clause-faults : goal.returns-in-Fault-clause-faults
returns-in-Fault-clause-faults g c =
    subst (λ (n : ℕ). Rose n (g.I.Source.feed c.next.new.self).faults) c.turns.invariant.faults c.in-Fault.ensures.next.rose

pub returns-in-Fault-clause-lacked : goal.returns-in-Fault-clause-lacked
returns-in-Fault-clause-lacked g c = c.in-Fault.ensures.next.lacked ∙ c.turns.invariant.lacked

pub returns-in-Fault-clause-made : goal.returns-in-Fault-clause-made
returns-in-Fault-clause-made g c =
    let so_far = c.turns.invariant.made in
    let given = c.in-Fault.ensures.given in
    omega (arith, so_far, given)

pub returns-in-Fault-clause-kept : goal.returns-in-Fault-clause-kept
returns-in-Fault-clause-kept g c = c.turns.invariant.kept

pub finish-requires : goal.finish-requires
finish-requires g c = record { waits = c.turns.invariant.waits }

pub returns-in-End-clause-ready : goal.returns-in-End-clause-ready
returns-in-End-clause-ready g c = c.turns.invariant.ready

pub returns-in-End-clause-same_promises : goal.returns-in-End-clause-same_promises
returns-in-End-clause-same_promises g c = c.turns.invariant.same_promises

pub returns-in-End-clause-whole : goal.returns-in-End-clause-whole
returns-in-End-clause-whole g c = λ marks is no.
    let s = setting_of (g.S.Service.completed c.args.service.now) (g.S.Service.promise c.args.service.now) (g.S.Service.left c.args.service.now) g.A.Source.Source.feed c.args.worker.now in
    let done = finishes_open c.turns.connection c.finish.result c.turns.out.items c.finish.new.out.items c.turns.invariant.unended c.finish.ensures.finishes in
    finished s c.args.limits marks (g.I.Source.feed c.turns.source) c.turns.connection c.args.out.now.items c.turns.out.items (c.turns.invariant.so_far marks is) c.turns.invariant.unended c.turns.invariant.limits_are c.turns.invariant.waits
    c.finish.result c.finish.new.out.items (none_after s c.args.limits marks (g.I.Source.feed c.turns.source) (g.I.Source.feed c.next.new.self) c.turns.connection c.args.out.now.items c.turns.out.items c.turns.invariant.unended c.turns.invariant.limits_are (c.turns.invariant.so_far marks is) c.in-End.ensures.next)
    (subst (λ (l : Limits). FinishesWith l c.turns.connection.left c.finish.result c.turns.out.items c.finish.new.out.items) c.turns.invariant.limits_are done)

pub returns-in-End-clause-fault : goal.returns-in-End-clause-fault
returns-in-End-clause-fault g c = λ marks is yes.
    let s = setting_of (g.S.Service.completed c.args.service.now) (g.S.Service.promise c.args.service.now) (g.S.Service.left c.args.service.now) g.A.Source.Source.feed c.args.worker.now in
    absurd (cc (is_faultless s c.args.limits marks (g.I.Source.feed c.turns.source) (g.I.Source.feed c.next.new.self) c.turns.connection c.args.out.now.items c.turns.out.items c.turns.invariant.unended c.turns.invariant.limits_are (c.turns.invariant.so_far marks is) c.in-End.ensures.next, yes))

pub returns-in-End-clause-faults : goal.returns-in-End-clause-faults
returns-in-End-clause-faults g c =
    let done = finishes_open c.turns.connection c.finish.result c.turns.out.items c.finish.new.out.items c.turns.invariant.unended c.finish.ensures.finishes in
    stops_finished c.turns.connection.limits c.turns.connection.left c.finish.result c.turns.out.items c.finish.new.out.items _ _ done
    (c.in-End.ensures.next.faults ∙ c.turns.invariant.faults)

pub returns-in-End-clause-lacked : goal.returns-in-End-clause-lacked
returns-in-End-clause-lacked g c = unless_lacking c.finish.result (c.in-End.ensures.next.lacked ∙ c.turns.invariant.lacked)

pub returns-in-End-clause-made : goal.returns-in-End-clause-made
returns-in-End-clause-made g c =
    let so_far = c.turns.invariant.made in
    let given = c.in-End.ensures.given in
    omega (arith, so_far, given)

pub returns-in-End-clause-kept : goal.returns-in-End-clause-kept
returns-in-End-clause-kept g c = c.turns.invariant.kept

pub returns-in-NoMemory-clause-ready : goal.returns-in-NoMemory-clause-ready
returns-in-NoMemory-clause-ready g c = c.turns.invariant.ready

pub returns-in-NoMemory-clause-same_promises : goal.returns-in-NoMemory-clause-same_promises
returns-in-NoMemory-clause-same_promises g c = c.turns.invariant.same_promises

pub returns-in-NoMemory-clause-whole : goal.returns-in-NoMemory-clause-whole
returns-in-NoMemory-clause-whole g c = λ marks is no.
    let s = setting_of (g.S.Service.completed c.args.service.now) (g.S.Service.promise c.args.service.now) (g.S.Service.left c.args.service.now) g.A.Source.Source.feed c.args.worker.now in
    lacks_memory s c.args.limits marks (g.I.Source.feed c.turns.source) c.turns.connection c.args.out.now.items c.turns.out.items (c.turns.invariant.so_far marks is) (inl c.turns.invariant.unended)

pub returns-in-NoMemory-clause-made : goal.returns-in-NoMemory-clause-made
returns-in-NoMemory-clause-made g c =
    let so_far = c.turns.invariant.made in
    let given = c.in-NoMemory.ensures.given in
    omega (arith, so_far, given)

pub returns-in-NoMemory-clause-kept : goal.returns-in-NoMemory-clause-kept
returns-in-NoMemory-clause-kept g c = c.turns.invariant.kept

pub returns-in-Some-clause-appends : goal.returns-in-Some-clause-appends
returns-in-Some-clause-appends g c =
    let takes = rw c.in-Some.is at c.take_piece-ended.ensures.takes in
    appends_then c.args.out.now.items c.turns.out.items c.take_piece-ended.new.out.items c.turns.invariant.grows (takes.1.0, takes.1.1)

pub returns-in-Fault-clause-appends : goal.returns-in-Fault-clause-appends
returns-in-Fault-clause-appends g c = c.turns.invariant.grows

pub returns-in-End-clause-appends : goal.returns-in-End-clause-appends
returns-in-End-clause-appends g c =
    let done = finishes_open c.turns.connection c.finish.result c.turns.out.items c.finish.new.out.items c.turns.invariant.unended c.finish.ensures.finishes in
    appends_then c.args.out.now.items c.turns.out.items c.finish.new.out.items c.turns.invariant.grows
    (appends_finished c.turns.connection.limits c.turns.connection.left c.finish.result c.turns.out.items c.finish.new.out.items done)

pub returns-in-NoMemory-clause-appends : goal.returns-in-NoMemory-clause-appends
returns-in-NoMemory-clause-appends g c = c.turns.invariant.grows
