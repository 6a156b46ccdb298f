use denote.Shadow.{shadow}
use denote.Text.{Utf8}
use Rattle.std.proofs.Common.{◌≡◌, ◌++◌, length, string_bytes}
use Rattle.web_texts.specs.QuotedText.{unescaped}
use Rattle.web_texts.proofs.grammar.quoted_text.unescape.Given as goal

abbrev pub invariant-parts : goal.invariant-parts
invariant-parts l = record {
  so_far : string_bytes l.made ++ unescaped l.rest ≡ unescaped l.text;
  text : shadow (Utf8 l.rest);
}

abbrev pub decreases-parts : goal.decreases-parts
decreases-parts l = length l.rest
