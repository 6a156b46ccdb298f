use denote.Shadow.{shadow}
use denote.Text.{Utf8}
use Rattle.std.proofs.Common.{◌≡◌, length}
use Rattle.web_forwarded.specs.Addresses.{without_closing}
use Rattle.web_forwarded.proofs.addresses.without_closing.Given as goal

abbrev pub invariant-brackets : goal.invariant-brackets
invariant-brackets l = record {
  same : without_closing l.rest ≡ without_closing l.text;
  text : shadow (Utf8 l.rest);
}

abbrev pub decreases-brackets : goal.decreases-brackets
decreases-brackets l = length l.rest
