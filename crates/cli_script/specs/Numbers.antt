-- Numbers that a script says.
use Rattle.std.specs.Prelude.{ℕ, List, Option, unwrap_or}
use Rattle.web_texts.specs.Digits.{number_of}

-- what the argument of a `local` or `conn` line says, where it is a number
abbrev pub line_number : List ℕ → ℕ
line_number text = unwrap_or (number_of text) 0
