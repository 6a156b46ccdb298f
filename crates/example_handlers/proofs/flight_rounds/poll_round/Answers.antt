use Rattle.std.proofs.Common.{rules, ◌+◌, ◌<◌}
use Rattle.example_handlers.proofs.FlightLemmas.{room}
use Rattle.example_handlers.proofs.flight_rounds.poll_round.Goals as goal

pub poll_one-requires-clause-room : goal.poll_one-requires-clause-room
poll_one-requires-clause-room g c =
    let more : c.loop-k.worker.made + 1 < 18446744073709551616 = search rules in
    room c.loop-k.worker.made _ _ more
