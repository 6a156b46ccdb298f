use Rattle.std.proofs.Common.{◌≡◌, ◌++◌, length}
use Rattle.hex.specs.Hex.{encode_lower}
use Rattle.cli_print.proofs.hexadecimal.put_digits.Given as goal

abbrev pub invariant-chunks : goal.invariant-chunks
invariant-chunks l =
    l.out.items ++ encode_lower l.rest ≡ l.initial.out.items ++ encode_lower l.fn.bytes

abbrev pub decreases-chunks : goal.decreases-chunks
decreases-chunks l = length l.rest
