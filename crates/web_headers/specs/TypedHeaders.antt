-- What the reader of a typed header returns.
use Rattle.std.specs.Prelude.{Option, None, Some, Result, Ok, Err}
use Rattle.web_texts.specs.declared.memory.Fail.{Fail}
use Rattle.web_texts.specs.declared.memory.Fail.TheVariants as fail

-- Ok with what the values say, or an error of the reader's own where they say nothing; allocation
-- may always fail.
abbrev pub ReadsAs : {T E : Type 0} → (Option T → Type 0) → Result T (Fail E) → Type 0
ReadsAs says (Ok x) = says (Some x)
ReadsAs says (Err fail.NoMemory) = Unit {0}
ReadsAs says (Err (fail.Of e)) = says None
