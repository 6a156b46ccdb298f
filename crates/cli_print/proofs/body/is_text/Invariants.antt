use Rattle.std.proofs.Common.{◌≡◌, length}
use Rattle.std.specs.List.{list_all}
use Rattle.cli_print.specs.BodyLines.{is_visible}
use Rattle.cli_print.proofs.body.is_text.Given as goal

abbrev pub invariant-chunks : goal.invariant-chunks
invariant-chunks l = list_all is_visible l.rest ≡ list_all is_visible l.fn.body

abbrev pub decreases-chunks : goal.decreases-chunks
decreases-chunks l = length l.rest
