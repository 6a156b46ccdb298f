use Rattle.std.proofs.Common.{◌≡◌, ◌-◌, length}
use Rattle.cli_io.specs.IoState.{ReadsBytes, raised_count}
use Rattle.cli_io.proofs.reading.read_whole.Given as goal

abbrev pub invariant-reading : goal.invariant-reading
invariant-reading g l = record {
  came : ReadsBytes l.bytes.items (g.I.Input.state l.initial.input) (g.I.Input.state l.input);
  given : (g.I.Input.state l.input).given ≡ raised_count (g.I.Input.state l.initial.input).given (length l.bytes.items);
  faults : (g.I.Input.state l.input).faults ≡ (g.I.Input.state l.initial.input).faults;
}

abbrev pub decreases-reading : goal.decreases-reading
decreases-reading g l = 16777217 - length l.bytes.items
