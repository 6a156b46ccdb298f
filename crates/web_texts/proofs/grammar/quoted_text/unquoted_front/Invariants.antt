use denote.Shadow.{shadow}
use denote.Text.{Utf8}
use Rattle.std.proofs.Common.{◌≡◌, length}
use Rattle.web_texts.specs.Bytes.{unquoted_front}
use Rattle.web_texts.proofs.grammar.quoted_text.unquoted_front.Given as goal

abbrev pub invariant-quotes : goal.invariant-quotes
invariant-quotes l = record {
  same : unquoted_front l.rest ≡ unquoted_front l.text;
  text : shadow (Utf8 l.rest);
}

abbrev pub decreases-quotes : goal.decreases-quotes
decreases-quotes l = length l.rest
