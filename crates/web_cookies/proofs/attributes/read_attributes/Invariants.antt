use denote.Shadow.{shadow}
use denote.Text.{Utf8}
use Rattle.std.proofs.Common.{◌≡◌, length}
use Rattle.web_cookies.specs.Attributes.{attributes_of, with_attributes}
use Rattle.web_cookies.proofs.attributes.read_attributes.Given as goal

abbrev pub invariant-parts : goal.invariant-parts
invariant-parts l = record {
  so_far : with_attributes (attributes_of l.rest) l.cookie
      ≡ with_attributes (attributes_of l.text) l.initial.cookie;
  text : shadow (Utf8 l.rest);
}

abbrev pub decreases-parts : goal.decreases-parts
decreases-parts l = length l.rest
