use Rattle.std.proofs.Common.{ap, ◌∙◌}
use Rattle.std.specs.Prelude.{is_some}
use Rattle.example_handlers.proofs.FlightLemmas.{is_some_map}
use Rattle.example_handlers.proofs.flight_rounds.is_answered.Goals as goal

pub returns : goal.returns
returns g c = c.is_some.ensures ∙ is_some_map _ c.outcome.result ∙ ap is_some c.outcome.ensures
