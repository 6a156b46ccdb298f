-- The places of a media type at which a semicolon ends a piece, and those at which it does not.
use Rattle.std.specs.Prelude.{ℕ, ◌==◌, Bool, true, false, if◌then◌else◌}
use Rattle.web_texts.specs.Pieces.{Rule}
use Rattle.web_texts.specs.declared.grammar.parameters.Quoting.{Quoting}
use Rattle.web_texts.specs.declared.grammar.parameters.Quoting.TheVariants.{Outside, Quoted}
use Rattle.web_texts.specs.declared.grammar.parameters.Quoting.TheVariants.{Escaped}

-- A double quote begins and ends quoted text, in which a backslash keeps the next byte.
abbrev pub place_behind : Quoting → ℕ → Quoting
place_behind Outside b = if b == 34 then Quoted else Outside
place_behind Quoted b = if b == 34 then Outside else if b == 92 then Escaped else Quoted
place_behind Escaped b = Quoted

abbrev pub is_outside : Quoting → Bool
is_outside Outside = true
is_outside Quoted = false
is_outside Escaped = false

abbrev pub semicolons : Rule Quoting
semicolons = record { mark = 59; cuts = is_outside; next = place_behind; start = Outside }
