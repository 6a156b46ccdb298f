-- A line's word and argument.
use Rattle.std.specs.Prelude.{ℕ, ◌==◌, ◌||◌, Bool, List, [], length, slice_index}
use Rattle.std.specs.Prelude.{codes, if◌then◌else◌}
use Rattle.std.specs.List.{before_first, after_first}
use Rattle.std.specs.Str.{bytes_eq}
use Rattle.cli_script.specs.declared.line.Word.{Word}
use Rattle.cli_script.specs.declared.line.Word.TheVariants as word

pub record Line : Type 0 where
  pub word : Word
  pub argument : List ℕ

abbrev pub is_space : ℕ → Bool
is_space b = b == 32

abbrev pub word_of : List ℕ → Word
word_of name =
    if bytes_eq name (codes "text") then word.Text
    else if bytes_eq name (codes "plan") then word.Plan
    else if bytes_eq name (codes "exchange") then word.Exchange
    else if bytes_eq name (codes "header") then word.Header
    else if bytes_eq name (codes "param") then word.Param
    else if bytes_eq name (codes "peer") then word.Peer
    else if bytes_eq name (codes "layer") then word.Layer
    else if bytes_eq name (codes "piece") then word.Piece
    else if bytes_eq name (codes "stall") then word.Stall
    else if bytes_eq name (codes "fault") then word.Fault
    else if bytes_eq name (codes "local") then word.Local
    else if bytes_eq name (codes "conn") then word.Conn
    else word.Unknown

-- Empty lines and comments are skipped. Else the word is what precedes the first space, and the
-- argument what follows it.
abbrev pub line_of : List ℕ → Line
line_of text =
    if length text == 0 || slice_index text 0 == 35
    then record { word = word.Skipped; argument = [] }
    else record {
      word = word_of (before_first is_space text);
      argument = after_first is_space text;
    }
