use Rattle.std.proofs.Common.{◌≡◌, length}
use Rattle.web_texts.specs.QuotedText.{is_closed}
use Rattle.web_texts.proofs.grammar.quoted_text.is_closed.Given as goal

abbrev pub invariant-bytes : goal.invariant-bytes
invariant-bytes l = is_closed l.rest ≡ is_closed l.text

abbrev pub decreases-bytes : goal.decreases-bytes
decreases-bytes l = length l.rest
