use Rattle.std.proofs.Common.{◌≡◌, length}
use Rattle.web_texts.specs.Blanks.{without_front}
use Rattle.web_texts.proofs.grammar.blanks.trim_bytes_front.Given as goal

abbrev pub invariant-blanks : goal.invariant-blanks
invariant-blanks l = without_front l.rest ≡ without_front l.text

abbrev pub decreases-blanks : goal.decreases-blanks
decreases-blanks l = length l.rest
