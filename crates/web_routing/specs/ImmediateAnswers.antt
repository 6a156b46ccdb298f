-- What a handler may give whose closure returns its value at once.
use Rattle.std.specs.Prelude.{◌≡◌, ℕ, Result, Ok, Err}
use Rattle.web_texts.specs.declared.memory.Fail.{Fail}
use Rattle.web_texts.specs.declared.memory.Fail.TheVariants as fail

-- the value or the error of the closure, at the first poll
abbrev pub ImmediateAnswers : {T E : Type 0} → (Result T (Fail E) → Type 0) → ℕ → Result T E
    → Type 0
ImmediateAnswers post n (Ok x) = (n ≡ 0) × post (Ok x)
ImmediateAnswers post n (Err e) = (n ≡ 0) × post (Err (fail.Of e))
