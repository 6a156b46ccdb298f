-- A call that may also lack memory.
use Rattle.std.specs.Prelude.{◌≡◌, Result, Ok, Err}
use Rattle.web_texts.specs.declared.memory.Fail.{Fail}
use Rattle.web_texts.specs.declared.memory.Fail.TheVariants as fail

abbrev pub ReturnsError : {T E : Type 0} → Fail E → Result T E → Type 0
ReturnsError fail.NoMemory wanted = Unit {0}
ReturnsError (fail.Of e) wanted = wanted ≡ Err e

-- the result is the wanted one, value or error; only allocation may fail besides
abbrev pub Returns : {T E : Type 0} → Result T (Fail E) → Result T E → Type 0
Returns (Ok x) wanted = wanted ≡ Ok x
Returns (Err e) wanted = ReturnsError e wanted

-- the same, where contracts see the value by a view
abbrev pub ReturnsBy : {X T E : Type 0} → (X → T) → Result X (Fail E) → Result T E → Type 0
ReturnsBy view (Ok x) wanted = wanted ≡ Ok (view x)
ReturnsBy view (Err e) wanted = ReturnsError e wanted
