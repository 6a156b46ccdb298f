use Rattle.std.proofs.Common.{◌≡◌, arith, rules, true}
use Rattle.web_worker.specs.Flights.{is_open}
use Rattle.web_worker.specs.Setting.{setting_of}
use Rattle.web_worker.proofs.StateLemmas.{stays_refl}
use Rattle.web_routing.proofs.ServedLemmas.{first_of_all, one_more, progress_on, room_on, waits_as}
use Rattle.web_routing.proofs.serving.poll_up_to.Goals as goal

pub loop-done-init : goal.loop-done-init
loop-done-init g c = record {
  ready = c.requires.ready;
  same = g.met.S.Service.same_itself c.args.service.now;
  progress = λ x is. rw is
      (first_of_all (setting_of (g.S.Service.completed c.args.service.now)
      (g.S.Service.promise c.args.service.now) (g.S.Service.left c.args.service.now)
      g.A.Source.Source.feed c.args.worker.now) x g.S.Service.states c.args.worker.now
      c.args.service.now (stays_refl g.S.Service.states c.args.service.now));
}

pub poll_flight-requires-clause-room : goal.poll_flight-requires-clause-room
poll_flight-requires-clause-room g c =
    let x = waits_as c.args.flight.now c.requires.waits in
    let unanswered : is_open c.loop-done.flight ≡ true = search rules in
    room_on (setting_of (g.S.Service.completed c.args.service.now)
    (g.S.Service.promise c.args.service.now) (g.S.Service.left c.args.service.now)
    g.A.Source.Source.feed c.args.worker.now) x.0 g.S.Service.states c.loop-done._done
    c.loop-done.flight c.args.worker.now c.loop-done.worker c.args.service.now
    c.loop-done.service 18446744073709551616 c.requires.room unanswered
    (c.loop-done.invariant.progress x.0 x.1)

pub loop-done-preserved : goal.loop-done-preserved
loop-done-preserved g c =
    let unanswered : is_open c.loop-done.flight ≡ true = search rules in
    record {
      ready = c.poll_flight.ensures.ready;
      same = g.met.S.Service.same_on c.args.service.now c.loop-done.service
          c.poll_flight.new.service c.loop-done.invariant.same
          c.poll_flight.ensures.same_promises;
      progress = λ x is.
          one_more (setting_of (g.S.Service.completed c.args.service.now)
          (g.S.Service.promise c.args.service.now) (g.S.Service.left c.args.service.now)
          g.A.Source.Source.feed c.args.worker.now) x g.S.Service.states c.loop-done._done
          c.poll_flight.new.flight c.args.worker.now c.poll_flight.new.worker
          c.args.service.now c.poll_flight.new.service
          (progress_on g.A.Source.Source.feed c.args.worker.now
          (g.S.Service.completed c.args.service.now) (g.S.Service.completed c.loop-done.service)
          (g.S.Service.promise c.args.service.now) (g.S.Service.promise c.loop-done.service)
          (g.S.Service.left c.args.service.now) (g.S.Service.left c.loop-done.service)
          (g.met.S.Service.keeps c.args.service.now c.loop-done.service
          c.loop-done.invariant.same) g.S.Service.states x c.loop-done._done c.loop-done.flight
          c.poll_flight.new.flight c.loop-done.worker c.poll_flight.new.worker
          c.args.service.now c.loop-done.service c.poll_flight.new.service
          (g.S.Service.calls c.loop-done.service) (g.S.Service.calls c.poll_flight.new.service)
          unanswered (c.loop-done.invariant.progress x is) c.poll_flight.ensures.polls
          c.poll_flight.ensures.state);
    }

pub returns-after-loop-done-clause-polled : goal.returns-after-loop-done-clause-polled
returns-after-loop-done-clause-polled g c = λ x is.
    let end = c.loop-done.auto._done-end in
    let over = c.loop-done-test.false in
    record {
      n = c.loop-done._done;
      least = omega (arith, end, over);
      all = λ e. omega (arith, end, over);
      progress = c.loop-done.invariant.progress x is;
    }

pub returns-then-not-is_open-clause-polled : goal.returns-then-not-is_open-clause-polled
returns-then-not-is_open-clause-polled g c = λ x is.
    let more = c.loop-done-test.true in
    record {
      n = c.loop-done._done;
      least = omega (arith, more);
      all = λ e. absurd (search rules);
      progress = c.loop-done.invariant.progress x is;
    }
