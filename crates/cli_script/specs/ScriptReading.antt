-- What reading all lines of a script comes to, while the last exchange is not in the sink yet.
use Rattle.std.specs.Prelude.{◌≡◌, ◌<◌, ◌^◌, ℕ, true, List, ◌++◌, length}
use Rattle.std.specs.Prelude.{Result, Ok, Err}
use Rattle.std.specs.Option.{ForSome}
use Rattle.web_request.specs.Body.{is_body, piece_bytes}
use Rattle.web_texts.specs.declared.memory.Fail.{Fail}
use Rattle.web_texts.specs.declared.memory.Fail.TheVariants.{NoMemory, Of}
use Rattle.cli_script.specs.ExchangeSinks.{Adds, open_exchanges}
use Rattle.cli_script.specs.Line.{Line}
use Rattle.cli_script.specs.Reader.{ReaderView}
use Rattle.cli_script.specs.ScriptedView.{ScriptedExchangeView}
use Rattle.cli_script.specs.ScriptExchanges.{exchanges, plan}
use Rattle.cli_script.specs.declared.reason.LineFault.{LineFault}
use Rattle.cli_script.specs.declared.script.InvalidScript.{InvalidScript}

pub record IsWholeRead {S : Type 0} (holds : S → List ScriptedExchangeView → Type 0)
    (lines : List Line) (old new : S) (reader : ReaderView) : Type 0 where
  -- all exchanges but the open one were added
  pub before : List ScriptedExchangeView
  pub added : Adds holds old new before
  pub exchanges : exchanges lines ≡ before ++ open_exchanges reader.open_exchange
  pub plan : reader.plan ≡ plan lines
  pub body : ForSome reader.open_exchange (λ e. is_body e.marks ≡ true)
  pub small : ForSome reader.open_exchange (λ e. length (piece_bytes e.marks) < 2 ^ 63)

-- what reading the line with this number comes to
abbrev pub with_line : ℕ → Result Unit (Fail LineFault) → Result Unit (Fail InvalidScript)
with_line number (Ok u) = Ok u
with_line number (Err NoMemory) = Err NoMemory
with_line number (Err (Of r)) = Err (Of (record { line = number; reason = r }))
