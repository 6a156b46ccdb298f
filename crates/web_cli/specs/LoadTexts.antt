-- What `generate` and `replay` write of a load.
use Rattle.std.specs.Prelude.{◌≡◌, ℕ, List, length}
use Rattle.cli_load.specs.ScriptTexts.{script_text}
use Rattle.cli_load.specs.declared.load.Load.{Load}
use Rattle.web_request.specs.Feed.{Feed}
use Rattle.web_worker.specs.ExchangeRules.{Rules}
use Rattle.cli_script.specs.Script.{ScriptView, script_lines, script_view}
use Rattle.cli_print.specs.SummaryText.{summary}
use Rattle.demo_app.specs.declared.layer.DemoLayer.{DemoLayer}
use Rattle.demo_app.specs.declared.app.DemoLocal.{DemoLocal}
use Rattle.demo_app.specs.declared.app.DemoConn.{DemoConn}
use Rattle.demo_app.specs.ServiceFunctions.{ArgumentFunctions, ArgumentsMeet}
use Rattle.demo_app.specs.ServiceFunctions.{HandlerFunctions, HandlerMeets}
use Rattle.web_cli.specs.ScriptAnswers.{script_outcomes, script_pool}

-- the script of a load
abbrev pub load_script : Load → List ℕ
load_script load = script_text load.seed load.count

-- how many records the pool keeps while a load is served
abbrev pub replay_capacity : ℕ
replay_capacity = 128

module _ {V : Type 0} (a : ArgumentFunctions V) (h : HandlerFunctions V) where
  -- the summary of what a script of this many bytes asks for, with the number of records that were
  -- made
  unfoldable pub summary_of : ℕ → ScriptView → List ℕ
  summary_of script_len s =
      summary script_len (script_outcomes a h s) (script_pool a h replay_capacity s).made

-- the summary of a script
abbrev pub summary_text :
    {V : Type 0} → ArgumentFunctions V → HandlerFunctions V → List ℕ → List ℕ
summary_text a h bytes = summary_of a h (length bytes) (script_view (script_lines bytes))

-- R: what the extractors, their errors, the handler and its outputs promise
module _ {V E Y : Type 0} (R : Rules DemoLayer DemoLocal DemoConn V E Y) where
  -- for all functions that the arguments and the handler meet, this is the summary
  abbrev pub IsSummaryOf : ℕ → ScriptView → List ℕ → Type 0
  IsSummaryOf script_len script text =
      (a : ArgumentFunctions V) (h : HandlerFunctions V)
      → ArgumentsMeet R.means R.converts a
      → HandlerMeets R.answers R.responds h → text ≡ summary_of a h script_len script

  abbrev pub IsSummary : List ℕ → List ℕ → Type 0
  IsSummary bytes text = IsSummaryOf (length bytes) (script_view (script_lines bytes)) text
