use Rattle.std.proofs.Common.{◌≡◌, ◌++◌, take}
use Rattle.std.specs.List.{flat_map}
use Rattle.cli_print.specs.OutcomeText.{serial_text}
use Rattle.cli_print.proofs.outcomes.put_serials.Given as goal

abbrev pub invariant-loop-serial : goal.invariant-loop-serial
invariant-loop-serial l = l.out.items ≡ l.initial.out.items ++ flat_map serial_text (take l.serial-index l.serials)
