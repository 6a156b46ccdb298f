-- A wrapped value comes where the value comes.
use Rattle.std.proofs.Common.{◌≡◌, ℕ, List, refl}
use Rattle.std.specs.Prelude.{Option, None, Some, Result}
use Rattle.web_request.specs.declared.source.Mark.{Mark}
use Rattle.web_body.specs.PollSteps.{IfReady, Shifts}
use Rattle.web_body.specs.declared.poll.Step.{Step}
use Rattle.web_body.specs.declared.poll.Step.TheVariants.{Pending, Ready, NoMemory}
use Rattle.web_extract.specs.Extracts.{Extracts}
use Rattle.web_extract.specs.declared.body.capped_argument.Capped.{Capped}
use Rattle.web_extract.specs.CappedArguments.{GivesCapped, WrapsStep}

module _ {T E : Type 0} {cap : ℕ} where
  pub value_wrapped : (gives : ℕ → Result T E → Type 0) (s : Step (Result T E)) (t : Step (Result (Capped T cap) E)) → WrapsStep s t → IfReady s (λ y. gives 0 y) → IfReady t (λ x. GivesCapped gives 0 x)
  value_wrapped gives Pending t w value = rw w tt
  value_wrapped gives (Ready y) t w value = rw w (y, value, refl)
  value_wrapped gives NoMemory t w value = rw w tt

  pub shift_wrapped : (old new : ℕ → Result T E → Type 0) (s : Step (Result T E)) (t : Step (Result (Capped T cap) E)) → WrapsStep s t → Shifts s old new
      → Shifts t (λ n x. GivesCapped old n x) (λ n x. GivesCapped new n x)
  shift_wrapped old new Pending t w shift = rw w (λ n x h. (h.0, shift n h.0 h.1, h.2))
  shift_wrapped old new (Ready y) t w shift = rw w tt
  shift_wrapped old new NoMemory t w shift = rw w tt

pub extracts_wrapped : {T E : Type 0} (cap : ℕ) (means : List Mark → List Mark → ℕ → Result T E → Type 0) (gives : ℕ → Result T E → Type 0) (old new : Option (List Mark)) → Extracts means gives old new
    → Extracts {T = Result (Capped T cap) E} (λ m rest n x. GivesCapped (means m rest) n x) (λ n x. GivesCapped gives n x) old new
extracts_wrapped cap means gives None new h = tt
extracts_wrapped cap means gives (Some m) new h = (h.0, h.1, λ n x k. (k.0, h.2 n k.0 k.1, k.2))
