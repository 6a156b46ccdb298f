use Rattle.std.proofs.Common.{◌≡◌, true, take}
use Rattle.std.specs.List.{list_all}
use Rattle.http_header.specs.Token.{is_visible_or_blank}
use Rattle.web_headers.proofs.checked_directive.is_header_text.Given as goal

abbrev pub invariant-loop-b : goal.invariant-loop-b
invariant-loop-b l = list_all is_visible_or_blank (take l.b-index l.text) ≡ true
