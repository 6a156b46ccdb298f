-- Which lines of a script are faulty, and why.
use Rattle.std.specs.Prelude.{ℕ, ◌==◌, Bool, true, false, not, ◌&&◌, ◌||◌, List, length, nat_le}
use Rattle.std.specs.Prelude.{count_by, Option, None, Some, is_some, if◌then◌else◌}
use Rattle.std.specs.List.{list_any, after_last}
use Rattle.std.specs.Option.{option_or}
use Rattle.std.specs.Result.{is_ok}
use Rattle.hex.specs.Hex.{decode_of}
use Rattle.cli_script.specs.Line.{Line}
use Rattle.cli_script.specs.LineKinds.{has, is_mark}
use Rattle.cli_script.specs.LayerLines.{is_layer}
use Rattle.cli_script.specs.LineArguments.{is_header, is_param, request_fault}
use Rattle.web_texts.specs.Digits.{number_of}
use Rattle.cli_script.specs.Peers.{peer_of}
use Rattle.cli_script.specs.PlanEntries.{entries_of}
use Rattle.cli_script.specs.declared.line.Word.{Word}
use Rattle.cli_script.specs.declared.line.Word.TheVariants as word
use Rattle.cli_script.specs.declared.reason.LineFault.{LineFault}
use Rattle.cli_script.specs.declared.reason.LineFault.TheVariants as reason

-- some of the lines has this word
abbrev pub has_line : Word → List Line → Bool
has_line w before = list_any (has w) before

-- the lines after the last `exchange` line
abbrev pub exchange_lines : List Line → List Line
exchange_lines before = after_last (has word.Exchange) before

-- the most `header` lines of one exchange
abbrev pub max_headers : ℕ
max_headers = 1024

-- the reason, where the test is not met
abbrev pub unless : Bool → LineFault → Option LineFault
unless true r = None
unless false r = Some r

-- why the argument of a line of this word is faulty
abbrev pub argument_fault : Word → List ℕ → Option LineFault
argument_fault word.Exchange text = request_fault text
argument_fault word.Header text = unless (is_header text) reason.BadHeader
argument_fault word.Param text = unless (is_param text) reason.BadParam
argument_fault word.Peer text = unless (is_some (peer_of text)) reason.BadPeer
argument_fault word.Layer text = unless (is_layer text) reason.BadLayer
argument_fault word.Piece text = unless (is_ok (decode_of text)) reason.BadPiece
argument_fault word.Stall text = unless (length text == 0) reason.BadMark
argument_fault word.Fault text = unless (length text == 0) reason.BadMark
argument_fault word.Local text = unless (is_some (number_of text)) reason.BadNumber
argument_fault word.Conn text = unless (is_some (number_of text)) reason.BadNumber
argument_fault word.Plan text = unless (is_some (entries_of text)) reason.BadPlan
argument_fault _ text = None

-- Why no line of this word may stand after these lines: the first test that applies.
abbrev pub place_fault : List Line → Line → Option LineFault
place_fault before line =
    if has word.Skipped line then None
    else if has word.Unknown line then Some reason.UnknownLine
    else if not (has word.Plan line) && has_line word.Plan before then Some reason.LineAfterPlan
    else if not (has word.Exchange line || has word.Plan line)
    && not (has_line word.Exchange before) then Some reason.NoExchange
    else if is_mark line && has_line word.Fault (exchange_lines before)
    then Some reason.MarkAfterFault
    else if has word.Header line
    && nat_le max_headers (count_by (has word.Header) (exchange_lines before))
    then Some reason.TooManyHeaders
    else None

-- Why a line is faulty, given the lines before it: its place is tested before its argument.
abbrev pub fault_of : List Line → Line → Option LineFault
fault_of before line = option_or (place_fault before line) (argument_fault line.word line.argument)
