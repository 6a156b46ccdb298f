-- What a script asks for, by filters over its lines.
use Rattle.std.specs.Prelude.{ℕ, List, [], ◌∷◌, None, if◌then◌else◌, unwrap_or}
use Rattle.std.specs.List.{flat_map, before_first, last_or}
use Rattle.std.specs.Result.{result_unwrap_or}
use Rattle.hex.specs.Hex.{decode_of}
use Rattle.http_header.specs.FieldValue.{FieldValue}
use Rattle.http_header.specs.HeaderMap.{append_all}
use Rattle.web_request.specs.declared.peers.address.SocketAddr.{SocketAddr}
use Rattle.web_request.specs.declared.source.Mark.{Mark}
use Rattle.web_request.specs.declared.source.Mark.TheVariants as mark
use Rattle.web_request.specs.Body.{whole}
use Rattle.web_texts.specs.Pairs.{Pair}
use Rattle.cli_script.specs.Line.{Line}
use Rattle.cli_script.specs.ScriptedView.{ScriptedExchangeView}
use Rattle.cli_script.specs.LineKinds.{has}
use Rattle.cli_script.specs.LayerLines.{layer_of}
use Rattle.cli_script.specs.LineArguments.{before_space, request_target, header_of, param_of}
use Rattle.cli_script.specs.Numbers.{line_number}
use Rattle.cli_script.specs.Peers.{line_peer}
use Rattle.cli_script.specs.PlanEntries.{entries_of}
use Rattle.cli_script.specs.declared.layer.LayerSettings.{LayerSettings}
use Rattle.cli_script.specs.declared.line.Word.{Word}
use Rattle.cli_script.specs.declared.line.Word.TheVariants as word

-- the mark of a line of this word, where it is one; a piece without bytes is none
abbrev pub line_marks : Word → List ℕ → List Mark
line_marks word.Text text = whole text
line_marks word.Piece text = whole (result_unwrap_or (decode_of text) [])
line_marks word.Stall text = mark.Stall ∷ []
line_marks word.Fault text = mark.Fault ∷ []
line_marks _ text = []

-- the header of a line of this word, where it is one
abbrev pub line_headers : Word → List ℕ → List (List ℕ × FieldValue)
line_headers word.Header text = header_of text ∷ []
line_headers _ text = []

-- the layer of a line of this word, where it is one
abbrev pub line_layers : Word → List ℕ → List LayerSettings
line_layers word.Layer text = layer_of text ∷ []
line_layers _ text = []

-- the parameter of a line of this word, where it is one
abbrev pub line_params : Word → List ℕ → List Pair
line_params word.Param text = param_of text ∷ []
line_params _ text = []

-- the address of a `peer` line
abbrev pub line_peers : Word → List ℕ → List SocketAddr
line_peers word.Peer text = line_peer text ∷ []
line_peers _ text = []

-- the number of a `local` line
abbrev pub line_locals : Word → List ℕ → List ℕ
line_locals word.Local text = line_number text ∷ []
line_locals _ text = []

-- the number of a `conn` line
abbrev pub line_conns : Word → List ℕ → List ℕ
line_conns word.Conn text = line_number text ∷ []
line_conns _ text = []

-- the exchange of METHOD and TARGET, and of the lines up to the next `exchange` line
abbrev pub exchange_of : List ℕ → List Line → ScriptedExchangeView
exchange_of head lines = record {
  method = before_space head;
  target = request_target head;
  headers = append_all [] (flat_map (λ line. line_headers line.word line.argument) lines);
  params = flat_map (λ line. line_params line.word line.argument) lines;
  layers = flat_map (λ line. line_layers line.word line.argument) lines;
  marks = flat_map (λ line. line_marks line.word line.argument) lines;
  peer = last_or None (flat_map (λ line. line_peers line.word line.argument) lines);
  local = last_or None (flat_map (λ line. line_locals line.word line.argument) lines);
  conn = last_or None (flat_map (λ line. line_conns line.word line.argument) lines);
}

-- one exchange for each `exchange` line, of the lines up to the next
abbrev pub exchanges : List Line → List ScriptedExchangeView
exchanges [] = []
exchanges (line ∷ rest) =
    if has word.Exchange line
    then exchange_of line.argument (before_first (has word.Exchange) rest) ∷ exchanges rest
    else exchanges rest

-- the entries of a `plan` line
abbrev pub line_entries : Word → List ℕ → List ℕ
line_entries word.Plan text = unwrap_or (entries_of text) []
line_entries _ text = []

-- the entries of all `plan` lines, joined
abbrev pub plan : List Line → List ℕ
plan lines = flat_map (λ line. line_entries line.word line.argument) lines
