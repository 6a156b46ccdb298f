-- What the reader knows of the lines that it has read, and how a line changes it.
use Rattle.std.specs.Prelude.{◌≡◌, ℕ, Bool, true, false, not, List, [], ◌++◌, nat_le, Option, None}
use Rattle.std.specs.Prelude.{Some, is_some, Result, if◌then◌else◌}
use Rattle.std.specs.Option.{option_map, option_or}
use Rattle.http_header.specs.FieldValue.{FieldValue}
use Rattle.http_header.specs.HeaderMap.{append_all, value_count}
use Rattle.web_texts.specs.declared.memory.Fail.{Fail}
use Rattle.web_texts.specs.Pairs.{Pair}
use Rattle.web_request.specs.declared.peers.address.SocketAddr.{SocketAddr}
use Rattle.web_request.specs.declared.source.Mark.{Mark}
use Rattle.cli_script.specs.Acceptance.{Accepts}
use Rattle.cli_script.specs.ExchangeSinks.{open_exchanges}
use Rattle.cli_script.specs.Line.{Line}
use Rattle.cli_script.specs.ScriptedView.{ScriptedExchangeView}
use Rattle.web_request.specs.Head.{Target}
use Rattle.cli_script.specs.LineFaults.{argument_fault, max_headers}
use Rattle.cli_script.specs.Numbers.{line_number}
use Rattle.cli_script.specs.Peers.{line_peer}
use Rattle.cli_script.specs.ScriptExchanges.{line_headers, line_layers, line_marks, line_params}
use Rattle.cli_script.specs.ScriptExchanges.{exchange_of, line_entries}
use Rattle.cli_script.specs.declared.layer.LayerSettings.{LayerSettings}
use Rattle.cli_script.specs.declared.reason.LineFault.{LineFault}
use Rattle.cli_script.specs.declared.reason.LineFault.TheVariants as reason
use Rattle.cli_script.specs.declared.line.Word.{Word}
use Rattle.cli_script.specs.declared.line.Word.TheVariants as word

pub record ReaderView : Type 0 where
  -- the exchange of the last `exchange` line
  pub open_exchange : Option ScriptedExchangeView
  -- that exchange has a fault
  pub has_fault : Bool
  pub has_plan : Bool
  pub plan : List ℕ

abbrev pub new_reader : ReaderView
new_reader = record { open_exchange = None; has_fault = false; has_plan = false; plan = [] }

-- how many `header` lines the open exchange has
abbrev pub header_count : Option ScriptedExchangeView → ℕ
header_count None = 0
header_count (Some e) = value_count e.headers

-- Why no line of this word may stand here: whether a plan came, whether an exchange is begun, and
-- whether it has a fault and as many headers as it may have.
abbrev pub word_fault : Bool → Bool → Bool → Bool → Word → Option LineFault
word_fault planned begun failed full word.Skipped = None
word_fault planned begun failed full word.Unknown = Some reason.UnknownLine
word_fault planned begun failed full word.Plan = None
word_fault planned begun failed full word.Exchange =
    if planned then Some reason.LineAfterPlan else None
word_fault planned begun failed full word.Header =
    if planned then Some reason.LineAfterPlan
    else if not begun then Some reason.NoExchange
    else if full then Some reason.TooManyHeaders
    else None
word_fault planned begun failed full word.Param =
    if planned then Some reason.LineAfterPlan
    else if not begun then Some reason.NoExchange
    else None
word_fault planned begun failed full word.Peer =
    if planned then Some reason.LineAfterPlan
    else if not begun then Some reason.NoExchange
    else None
word_fault planned begun failed full word.Layer =
    if planned then Some reason.LineAfterPlan
    else if not begun then Some reason.NoExchange
    else None
word_fault planned begun failed full word.Local =
    if planned then Some reason.LineAfterPlan
    else if not begun then Some reason.NoExchange
    else None
word_fault planned begun failed full word.Conn =
    if planned then Some reason.LineAfterPlan
    else if not begun then Some reason.NoExchange
    else None
word_fault planned begun failed full _ =
    if planned then Some reason.LineAfterPlan
    else if not begun then Some reason.NoExchange
    else if failed then Some reason.MarkAfterFault
    else None

abbrev pub reader_fault : ReaderView → Word → Option LineFault
reader_fault s w =
    word_fault s.has_plan (is_some s.open_exchange) s.has_fault
    (nat_le max_headers (header_count s.open_exchange)) w

-- why the reader refuses a line
abbrev pub refusal : ReaderView → Line → Option LineFault
refusal s line = option_or (reader_fault s line.word) (argument_fault line.word line.argument)

-- an exchange without headers, parameters, layers, body and data
abbrev pub bare_exchange : List ℕ → Target → ScriptedExchangeView
bare_exchange method target = record {
  method = method;
  target = target;
  headers = [];
  params = [];
  layers = [];
  marks = [];
  peer = None;
  local = None;
  conn = None;
}

-- an exchange of which no further line was read
abbrev pub new_exchange : List ℕ → ScriptedExchangeView
new_exchange text = exchange_of text []

abbrev pub with_headers : List (List ℕ × FieldValue) → ScriptedExchangeView → ScriptedExchangeView
with_headers more e = record e { headers = append_all e.headers more }

abbrev pub with_params : List Pair → ScriptedExchangeView → ScriptedExchangeView
with_params more e = record e { params = e.params ++ more }

abbrev pub with_layers : List LayerSettings → ScriptedExchangeView → ScriptedExchangeView
with_layers more e = record e { layers = e.layers ++ more }

abbrev pub with_marks : List Mark → ScriptedExchangeView → ScriptedExchangeView
with_marks more e = record e { marks = e.marks ++ more }

abbrev pub with_peer : SocketAddr → ScriptedExchangeView → ScriptedExchangeView
with_peer address e = record e { peer = Some address }

abbrev pub with_local : ℕ → ScriptedExchangeView → ScriptedExchangeView
with_local n e = record e { local = Some n }

abbrev pub with_conn : ℕ → ScriptedExchangeView → ScriptedExchangeView
with_conn n e = record e { conn = Some n }

-- the open exchange after a line of this word, which is not `exchange`
abbrev pub open_after : ReaderView → Word → List ℕ → Option ScriptedExchangeView
open_after s word.Header text =
    option_map (with_headers (line_headers word.Header text)) s.open_exchange
open_after s word.Layer text =
    option_map (with_layers (line_layers word.Layer text)) s.open_exchange
open_after s word.Param text =
    option_map (with_params (line_params word.Param text)) s.open_exchange
open_after s word.Text text = option_map (with_marks (line_marks word.Text text)) s.open_exchange
open_after s word.Piece text = option_map (with_marks (line_marks word.Piece text)) s.open_exchange
open_after s word.Stall text = option_map (with_marks (line_marks word.Stall text)) s.open_exchange
open_after s word.Fault text = option_map (with_marks (line_marks word.Fault text)) s.open_exchange
open_after s word.Peer text = option_map (with_peer (line_peer text)) s.open_exchange
open_after s word.Local text = option_map (with_local (line_number text)) s.open_exchange
open_after s word.Conn text = option_map (with_conn (line_number text)) s.open_exchange
open_after s _ text = s.open_exchange

-- the reader after a line of this word
abbrev pub after_line : ReaderView → Word → List ℕ → ReaderView
after_line s word.Exchange text =
    record s { open_exchange = Some (new_exchange text); has_fault = false }
after_line s word.Header text = record s { open_exchange = open_after s word.Header text }
after_line s word.Layer text = record s { open_exchange = open_after s word.Layer text }
after_line s word.Param text = record s { open_exchange = open_after s word.Param text }
after_line s word.Text text = record s { open_exchange = open_after s word.Text text }
after_line s word.Piece text = record s { open_exchange = open_after s word.Piece text }
after_line s word.Stall text = record s { open_exchange = open_after s word.Stall text }
after_line s word.Fault text =
    record s { open_exchange = open_after s word.Fault text; has_fault = true }
after_line s word.Peer text = record s { open_exchange = open_after s word.Peer text }
after_line s word.Local text = record s { open_exchange = open_after s word.Local text }
after_line s word.Conn text = record s { open_exchange = open_after s word.Conn text }
after_line s word.Plan text =
    record s { has_plan = true; plan = s.plan ++ line_entries word.Plan text }
after_line s word.Skipped text = s
after_line s word.Unknown text = s

-- the exchange that a line of this word completes, which goes to the sink
abbrev pub completed_by : ReaderView → Word → List ScriptedExchangeView
completed_by s word.Exchange = open_exchanges s.open_exchange
completed_by s _ = []

-- The line is valid and changes the reader, or it is refused.
abbrev pub Reads : ReaderView → ReaderView → Line → Result Unit (Fail LineFault) → Type 0
Reads old new line result =
    Accepts result (refusal old line) (λ _. new ≡ after_line old line.word line.argument)
