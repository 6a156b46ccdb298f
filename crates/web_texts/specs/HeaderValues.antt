-- What value a typed header gives.
use Rattle.std.specs.Prelude.{◌≡◌, Result, Ok, Err}
use Rattle.http_header.specs.FieldValue.{FieldValue, IsFieldValue}
use Rattle.web_texts.specs.declared.memory.Fail.{Fail}
use Rattle.web_texts.specs.declared.memory.Fail.TheVariants as fail

-- Ok with that value, or an error of the call's own where its bytes may stand in no header value
-- (RFC 9110, section 5.5); allocation may always fail.
abbrev pub GivesValue : {E : Type 0} → FieldValue → Result FieldValue (Fail E) → Type 0
GivesValue value (Ok v) = v ≡ value
GivesValue value (Err fail.NoMemory) = Unit {0}
GivesValue value (Err (fail.Of e)) = IsFieldValue value.bytes → ⊥
