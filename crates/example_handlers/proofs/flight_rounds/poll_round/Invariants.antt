use Rattle.example_handlers.proofs.flight_rounds.poll_round.Given as goal

abbrev pub invariant-loop-k : goal.invariant-loop-k
invariant-loop-k g l = g.H.Service.ready l.handler
