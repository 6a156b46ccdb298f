-- Arguments that allow everything.
use Rattle.std.proofs.Common.{ℕ, List, refl}
use Rattle.std.specs.Prelude.{Option, None, Some, ⊤}
use Rattle.web_request.specs.declared.source.Mark.{Mark}
use Rattle.web_extract.specs.Extracts.{Extracts}

pub extracts_any : {T : Type 0} (gives : ℕ → T → Type 0) (old : Option (List Mark)) (left : List Mark) → Extracts (λ m rest n x. ⊤) gives old (Some left)
extracts_any gives None left = tt
extracts_any gives (Some m) left = (left, refl, λ n x h. tt)
