use Rattle.std.proofs.Common.{◌≡◌, take}
use Rattle.std.specs.List.{list_all}
use Rattle.cli_print.specs.BodyLines.{is_visible}
use Rattle.cli_print.proofs.body.is_visible_block.Given as goal

abbrev pub invariant-loop-byte : goal.invariant-loop-byte
invariant-loop-byte l = l.is_text ≡ list_all is_visible (take l.byte-index l.block)
