-- What a reader of text returns, over the value that a text has.
use Rattle.std.specs.Prelude.{◌≡◌, Result, Ok, Err, Option, None, Some}
use Rattle.web_texts.specs.declared.memory.Fail.{Fail}
use Rattle.web_texts.specs.declared.memory.Fail.TheVariants as fail

-- no failed allocation
abbrev pub NeverNoMemory : {T E : Type 0} → Result T (Fail E) → Type 0
NeverNoMemory (Ok x) = Unit {0}
NeverNoMemory (Err fail.NoMemory) = ⊥
NeverNoMemory (Err (fail.Of e)) = Unit {0}

-- An error of the reader's own comes only where the text has no value; allocation may always fail.
abbrev pub ReadsOr : {T E : Type 0} → Fail E → Option T → Type 0
ReadsOr fail.NoMemory value = Unit {0}
ReadsOr (fail.Of e) value = value ≡ None

-- Ok exactly where the text has a value, and with that value
abbrev pub Reads : {T E : Type 0} → Result T (Fail E) → Option T → Type 0
Reads (Ok x) value = value ≡ Some x
Reads (Err e) value = ReadsOr e value

-- the same, where contracts see what is read by a view
abbrev pub ReadsBy : {X T E : Type 0} → (X → T) → Result X (Fail E) → Option T → Type 0
ReadsBy view (Ok x) value = value ≡ Some (view x)
ReadsBy view (Err e) value = ReadsOr e value
