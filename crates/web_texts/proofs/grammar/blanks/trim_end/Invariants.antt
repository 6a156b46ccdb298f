use denote.Shadow.{shadow}
use denote.Text.{Utf8}
use Rattle.std.proofs.Common.{◌≡◌, length}
use Rattle.web_texts.specs.Blanks.{without_end}
use Rattle.web_texts.proofs.grammar.blanks.trim_end.Given as goal

abbrev pub invariant-blanks : goal.invariant-blanks
invariant-blanks l = record {
  same : without_end l.rest ≡ without_end l.text;
  text : shadow (Utf8 l.rest);
}

abbrev pub decreases-blanks : goal.decreases-blanks
decreases-blanks l = length l.rest
