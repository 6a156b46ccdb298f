-- The answers of lines, whenever they come.
use Rattle.std.specs.Prelude.{List, map}
use Rattle.web_lines.specs.LineSchedules.{Schedule}
use Rattle.web_lines.specs.Lines.{Answer}

abbrev pub answers_of : Schedule → List Answer
answers_of s = map (λ d. d.answer) s.answers
