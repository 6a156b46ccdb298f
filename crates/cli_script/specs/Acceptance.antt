-- What a reading tells of what it read.
use Rattle.std.specs.Prelude.{◌≡◌, Option, None, Some, Result, Ok, Err, ⊤}
use Rattle.web_texts.specs.declared.memory.Fail.{Fail}
use Rattle.web_texts.specs.declared.memory.Fail.TheVariants.{NoMemory, Of}

-- It is the error of this fault, or allocation failed.
abbrev pub Refuses : {E : Type 0} → Fail E → Option E → Type 0
Refuses (Of e) fault = fault ≡ Some e
Refuses NoMemory fault = ⊤

-- It succeeds only where there is no fault, and then P holds of the value. It fails only with the
-- fault that there is, or because allocation failed.
abbrev pub Accepts : {T E : Type 0} → Result T (Fail E) → Option E → (T → Type 0) → Type 0
Accepts (Ok x) fault P = (fault ≡ None) × P x
Accepts (Err e) fault P = Refuses e fault
