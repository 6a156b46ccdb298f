-- What turns refusals into values is not refused.
use Rattle.std.proofs.Common.{◌≡◌}
use Rattle.std.specs.Prelude.{Result, Ok, Err}
use Rattle.web_extract.specs.declared.never.Never.{Never}
use Rattle.web_extract.specs.ResultArgument.{AsResult}
use Rattle.web_extract.specs.OptionArgument.{as_option}

pub option_not_refused : {T E : Type 0} (y : Result T E) (e : Never) → Err e ≡ as_option y → ⊥
option_not_refused (Ok v) e is = absurd (cc)
option_not_refused (Err x) e is = absurd (cc)

pub result_not_refused : {T E F : Type 0} (c : E → F → Type 0) (y : Result T E) (e : Never) → AsResult c y (Err e) → ⊥
result_not_refused c (Ok v) e is = absurd (cc)
result_not_refused c (Err x) e is = let same = is.2 in absurd (cc)
