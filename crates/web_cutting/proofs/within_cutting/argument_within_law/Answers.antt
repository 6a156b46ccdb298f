use Rattle.std.proofs.Common.{◌≡◌}
use Rattle.web_extract.specs.OptionArgument.{as_option}
use Rattle.web_extract.specs.ResultArgument.{AsResult}
use Rattle.web_cutting.proofs.CutWithinLemmas.{free_within, turned_within}
use Rattle.web_cutting.proofs.within_cutting.argument_within_law.Goals as goal

pub returns-clause-any : goal.returns-clause-any
returns-clause-any g c = λ limit q free. free_within limit (g.A.FromRequest.means q) free

pub returns-clause-option : goal.returns-clause-option
returns-clause-option g c = λ limit q free. turned_within limit (g.A.FromRequest.means q) (λ y x. x ≡ as_option y) free

pub returns-clause-result : goal.returns-clause-result
returns-clause-result g c = λ limit q free. turned_within limit (g.A.FromRequest.means q) (λ y x. AsResult _ y x) free
