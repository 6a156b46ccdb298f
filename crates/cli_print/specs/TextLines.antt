-- Lines of a word with a text or a number.
use Rattle.std.specs.Prelude.{ℕ, List, ◌++◌, decimal}
use Rattle.web_request_log.specs.HeaderDescriptions.{newline}

-- a line of a word and a number, and one of a word and a text
abbrev pub numbered_text : List ℕ → ℕ → List ℕ
numbered_text word n = word ++ decimal n ++ newline

abbrev pub line_text : List ℕ → List ℕ → List ℕ
line_text word text = word ++ text ++ newline
