use Rattle.std.proofs.Common.{◌≡◌}
use Rattle.web_extract.specs.CappedArguments.{wrapped}
use Rattle.web_cutting.proofs.CutWithinLemmas.{turned_within}
use Rattle.web_cutting.proofs.within_cutting.capped_within_law.Goals as goal

pub returns : goal.returns
returns g c = λ limit q free. turned_within limit _ (λ y x. x ≡ wrapped y) free
