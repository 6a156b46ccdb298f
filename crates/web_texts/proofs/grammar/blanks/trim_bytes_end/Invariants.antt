use Rattle.std.proofs.Common.{◌≡◌, length}
use Rattle.web_texts.specs.Blanks.{without_end}
use Rattle.web_texts.proofs.grammar.blanks.trim_bytes_end.Given as goal

abbrev pub invariant-blanks : goal.invariant-blanks
invariant-blanks l = without_end l.rest ≡ without_end l.text

abbrev pub decreases-blanks : goal.decreases-blanks
decreases-blanks l = length l.rest
