use Rattle.example_handlers.proofs.flight_rounds.poll_rounds.Given as goal

abbrev pub invariant-loop : goal.invariant-loop
invariant-loop g l = g.H.Service.ready l.handler
