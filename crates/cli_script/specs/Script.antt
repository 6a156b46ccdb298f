-- The lines of a script, whether it is valid, and what it asks for.
use Rattle.std.specs.Prelude.{◌≡◌, ℕ, ◌+◌, Bool, not, List, [], ◌∷◌, ◌++◌, map, length}
use Rattle.std.specs.Prelude.{Option, None, Some, is_some}
use Rattle.std.specs.List.{slice_split}
use Rattle.std.specs.Str.Lines.{strip_carriage_return}
use Rattle.web_texts.specs.Bytes.{is_newline}
use Rattle.cli_script.specs.ScriptedView.{ScriptedExchangeView}
use Rattle.cli_script.specs.Line.{Line, line_of}
use Rattle.cli_script.specs.LineFaults.{fault_of}
use Rattle.cli_script.specs.ScriptExchanges.{exchanges, plan}
use Rattle.cli_script.specs.declared.reason.LineFault.{LineFault}
use Rattle.cli_script.specs.declared.script.InvalidScript.{InvalidScript}

-- Lines end at a newline, and one carriage return at a line's end is dropped.
abbrev pub script_lines : List ℕ → List Line
script_lines bytes =
    map (λ text. line_of (strip_carriage_return text)) (slice_split is_newline bytes)

-- this fault of the line with this number, or else the next one
abbrev pub fault_or : Option LineFault → ℕ → Option InvalidScript → Option InvalidScript
fault_or (Some r) number next = Some (record { line = number; reason = r })
fault_or None number next = next

-- the first faulty line of those that are left, after those before
abbrev pub first_fault_after : List Line → List Line → Option InvalidScript
first_fault_after before [] = None
first_fault_after before (line ∷ left) =
    fault_or (fault_of before line) (length before + 1)
    (first_fault_after (before ++ line ∷ []) left)

-- the first faulty line, numbered from 1, and why it is faulty
abbrev pub first_fault : List Line → Option InvalidScript
first_fault lines = first_fault_after [] lines

-- a valid script, of which all is built: no line is faulty
abbrev pub is_valid_script : List Line → Bool
is_valid_script lines = not (is_some (first_fault lines))

-- no line is faulty, given the lines before it
abbrev pub NoneFaulty : List Line → Type 0
NoneFaulty lines =
    (before : List Line) (line : Line) (after : List Line)
    → lines ≡ before ++ line ∷ after → fault_of before line ≡ None

-- this line is faulty, and none before it
pub record IsFirstFault (lines : List Line) (fault : InvalidScript) (before : List Line)
    (faulty : Line) (after : List Line) : Type 0 where
  pub lines_are : lines ≡ before ++ faulty ∷ after
  pub number_is : fault.line ≡ length before + 1
  pub reason_is : fault_of before faulty ≡ Some fault.reason
  pub none_before : NoneFaulty before

-- what a script asks for
pub record ScriptView : Type 0 where
  pub exchanges : List ScriptedExchangeView
  pub plan : List ℕ

abbrev pub script_view : List Line → ScriptView
script_view lines = record { exchanges = exchanges lines; plan = plan lines }
