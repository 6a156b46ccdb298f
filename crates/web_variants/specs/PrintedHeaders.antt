-- How the headers of a variant are put into a map.
use Rattle.std.specs.Prelude.{◌≡◌, ℕ, Bool, true, false, List, Option, None, Some}
use Rattle.std.specs.Prelude.{Result, Ok, Err}
use Rattle.http_header.specs.FieldValue.{plain_value}
use Rattle.http_header.specs.HeaderMap.{insert}
use Rattle.web_texts.specs.declared.memory.Fail.{Fail}
use Rattle.web_texts.specs.declared.memory.Fail.TheVariants as fail
use Rattle.web_variants.specs.Acceptance.{Headers}

-- Ok exactly where a test passes, with a value of which this holds; only allocation may fail
-- besides
abbrev pub OkWhere : {T E : Type 0} → Bool → (T → Type 0) → Result T (Fail E) → Type 0
OkWhere test Holds (Ok x) = (test ≡ true) × Holds x
OkWhere test Holds (Err fail.NoMemory) = Unit {0}
OkWhere test Holds (Err (fail.Of e)) = test ≡ false

-- the headers with one more, where there is a text of it
abbrev pub insert_some : Headers → List ℕ → Option (List ℕ) → Headers
insert_some headers name None = headers
insert_some headers name (Some text) = insert headers name (plain_value text)
