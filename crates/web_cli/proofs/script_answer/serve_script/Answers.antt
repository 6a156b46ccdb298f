use Rattle.std.proofs.Common.{◌≡◌, ◌∙◌, ap, arith, map, sym, false}
use Rattle.std.specs.List.{list_any}
use Rattle.web_request.specs.Pool.{Pool}
use Rattle.web_worker.specs.Flights.{flight_outcome}
use Rattle.web_worker.specs.PlanOutcomes.{lacks_memory}
use Rattle.web_cli.specs.DemoExchanges.{demo_exchange}
use Rattle.web_cli.proofs.RepliesTextLemmas.{any_outcome, calls_are, numbers_same, outcomes_are, pool_is}
use Rattle.web_cli.proofs.RepliesTextLemmas.{waiting_at_most, waiting_exchanges}
use Rattle.web_cli.proofs.script_answer.serve_script.Goals as goal

pub serve_flights-requires-clause-room : goal.serve_flights-requires-clause-room
serve_flights-requires-clause-room g c =
    let most = waiting_at_most c.args.flights.now in
    let none : c.in_ok-worker.worker.made ≡ 0 =
    ap (λ (p : Pool _). p.made) c.in_ok-worker.ensures in
    let small = c.requires.room in
    omega (arith, most, none, small)

pub returns-clause-serves : goal.returns-clause-serves
returns-clause-serves g c = λ es are bodies.
    let plan = c.args.plan.now in
    let os = map (λ f. flight_outcome f) c.serve_flights.new.flights in
    let waiting = waiting_exchanges demo_exchange es c.args.flights.now are in
    let served = rw (numbers_same plan, c.in_ok-worker.ensures)
    at (c.serve_flights.ensures.functions (map demo_exchange es) waiting) in
    let left = rw (numbers_same plan, c.in_ok-worker.ensures)
    at (c.serve_flights.ensures.pool (map demo_exchange es) waiting) in
    let some : list_any lacks_memory os ≡ false =
    any_outcome c.serve_flights.new.flights
    ∙ sym c.any_lacks_memory.ensures ∙ c.if-any_lacks_memory.false in
    record {
      outcomes = λ a h meets handles.
          outcomes_are (record {
            means = g.Args.FromRequest.means;
            converts = g.Args.Error.Into.converts;
            answers = g.H.Handler.answers c.args.handler.now;
            responds = g.H.Output.Responder.responds;
          }) g.met.Args.FromRequest.converted g.Args.Future.Poll.gives g.H.Future.Poll.gives
          a meets h handles (record { exchanges = es; plan = plan }) os served bodies some;
      pool_left = λ a h meets handles.
          pool_is (record {
            means = g.Args.FromRequest.means;
            converts = g.Args.Error.Into.converts;
            answers = g.H.Handler.answers c.args.handler.now;
            responds = g.H.Output.Responder.responds;
          }) g.met.Args.FromRequest.converted g.Args.Future.Poll.gives g.H.Future.Poll.gives
          a meets h handles c.args.capacity (record { exchanges = es; plan = plan }) os
          c.serve_flights.new.worker left bodies some;
    }

pub returns-clause-calls : goal.returns-clause-calls
returns-clause-calls g c = λ es are bodies.
    let plan = c.args.plan.now in
    let os = map (λ f. flight_outcome f) c.serve_flights.new.flights in
    let waiting = waiting_exchanges demo_exchange es c.args.flights.now are in
    let called = rw (numbers_same plan, c.in_ok-worker.ensures)
    at (c.serve_flights.ensures.called (map demo_exchange es) waiting) in
    let some : list_any lacks_memory os ≡ false =
    any_outcome c.serve_flights.new.flights
    ∙ sym c.any_lacks_memory.ensures ∙ c.if-any_lacks_memory.false in
    λ a meets.
    calls_are (record {
      means = g.Args.FromRequest.means;
      converts = g.Args.Error.Into.converts;
      answers = g.H.Handler.answers c.args.handler.now;
      responds = g.H.Output.Responder.responds;
    }) g.met.Args.FromRequest.converted g.Args.Future.Poll.gives g.H.Future.Poll.gives a meets
    (record { exchanges = es; plan = plan }) os (g.H.Handler.calls c.args.handler.now)
    (g.H.Handler.calls c.serve_flights.new.service) called bodies some
