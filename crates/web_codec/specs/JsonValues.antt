-- The JSON value of a body.
use Rattle.std.specs.Prelude.{◌≡◌, ℕ, List, Option, None, Some, Result, Ok, Err, if◌then◌else◌}
use Rattle.std.specs.Str.{is_utf8}
use Rattle.serde_json.specs.Data.{Data}
use Rattle.serde_json.specs.Read.{read}
use Rattle.serde_json.specs.View.{view}
use Rattle.serde_json.specs.declared.value.Value.{Value}
use Rattle.web_texts.specs.declared.memory.Fail.{Fail}
use Rattle.web_codec.specs.declared.faults.JsonFault.{JsonFault}
use Rattle.web_codec.specs.declared.faults.JsonFault.TheVariants.{Syntax}
use Rattle.web_codec.specs.Answers.{AnswersBy}

-- the value of a body, if it is JSON in UTF-8
abbrev pub body_value : List ℕ → Option Data
body_value bytes = if is_utf8 bytes then read bytes else None

abbrev pub value_or_syntax : Option Data → Result Data JsonFault
value_or_syntax None = Err Syntax
value_or_syntax (Some d) = Ok d

-- the value of a body, or Syntax
abbrev pub ReadsValue : List ℕ → Result Value (Fail JsonFault) → Type 0
ReadsValue bytes x = AnswersBy view (λ y. y ≡ value_or_syntax (body_value bytes)) x
