-- Tests of a line by its word.
use Rattle.std.specs.Prelude.{Bool, true, false, ◌||◌}
use Rattle.cli_script.specs.Line.{Line}
use Rattle.cli_script.specs.declared.line.Word.{Word}
use Rattle.cli_script.specs.declared.line.Word.TheVariants as word

abbrev pub same_word : Word → Word → Bool
same_word word.Text word.Text = true
same_word word.Plan word.Plan = true
same_word word.Exchange word.Exchange = true
same_word word.Header word.Header = true
same_word word.Param word.Param = true
same_word word.Peer word.Peer = true
same_word word.Layer word.Layer = true
same_word word.Piece word.Piece = true
same_word word.Stall word.Stall = true
same_word word.Fault word.Fault = true
same_word word.Local word.Local = true
same_word word.Conn word.Conn = true
same_word word.Skipped word.Skipped = true
same_word word.Unknown word.Unknown = true
same_word _ _ = false

-- whether the line has this word
abbrev pub has : Word → Line → Bool
has w line = same_word w line.word

-- a line of a body
abbrev pub is_mark : Line → Bool
is_mark line =
    has word.Text line || has word.Piece line || has word.Stall line || has word.Fault line
