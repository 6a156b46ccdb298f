use denote.Shadow.{shadow}
use denote.Text.{Utf8}
use Rattle.std.proofs.Common.{◌≡◌, ◌++◌, length}
use Rattle.web_cookies.specs.HeaderCookies.{cookies_in}
use Rattle.web_cookies.proofs.header_cookies.add_cookies.Given as goal

abbrev pub invariant-parts : goal.invariant-parts
invariant-parts l = record {
  so_far : l.cookies.items ++ cookies_in l.encoded l.rest
      ≡ l.initial.cookies.items ++ cookies_in l.encoded l.text;
  text : shadow (Utf8 l.rest);
}

abbrev pub decreases-parts : goal.decreases-parts
decreases-parts l = length l.rest
