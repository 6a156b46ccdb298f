use denote.Shadow.{shadow}
use denote.Text.{Utf8}
use Rattle.std.proofs.Common.{◌≡◌, length}
use Rattle.web_forwarded.specs.Addresses.{without_opening}
use Rattle.web_forwarded.proofs.addresses.without_opening.Given as goal

abbrev pub invariant-brackets : goal.invariant-brackets
invariant-brackets l = record {
  same : without_opening l.rest ≡ without_opening l.text;
  text : shadow (Utf8 l.rest);
}

abbrev pub decreases-brackets : goal.decreases-brackets
decreases-brackets l = length l.rest
