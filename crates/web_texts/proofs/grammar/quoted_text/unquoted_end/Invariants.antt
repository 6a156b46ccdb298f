use denote.Shadow.{shadow}
use denote.Text.{Utf8}
use Rattle.std.proofs.Common.{◌≡◌, length}
use Rattle.web_texts.specs.Bytes.{unquoted_end}
use Rattle.web_texts.proofs.grammar.quoted_text.unquoted_end.Given as goal

abbrev pub invariant-quotes : goal.invariant-quotes
invariant-quotes l = record {
  same : unquoted_end l.rest ≡ unquoted_end l.text;
  text : shadow (Utf8 l.rest);
}

abbrev pub decreases-quotes : goal.decreases-quotes
decreases-quotes l = length l.rest
