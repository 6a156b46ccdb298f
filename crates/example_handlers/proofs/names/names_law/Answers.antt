use Rattle.std.specs.Prelude.{string_bytes}
use Rattle.example_handlers.proofs.NameListLemmas.{listed}
use Rattle.example_handlers.proofs.names.names_law.Goals as goal

pub returns : goal.returns
returns g c = λ qs os a b run. listed string_bytes qs os a b run
