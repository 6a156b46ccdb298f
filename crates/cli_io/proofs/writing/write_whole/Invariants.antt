use Rattle.std.proofs.Common.{◌≡◌, ◌-◌, ◌≤◌, length, take}
use Rattle.cli_io.specs.IoState.{WritesBytes}
use Rattle.cli_io.proofs.writing.write_whole.Given as goal

abbrev pub invariant-writing : goal.invariant-writing
invariant-writing g l = record {
  within : l.sent ≤ length l.text;
  went : WritesBytes (take l.sent l.text) (g.O.Output.state l.initial.output) (g.O.Output.state l.output);
  faults : (g.O.Output.state l.output).faults ≡ (g.O.Output.state l.initial.output).faults;
}

abbrev pub decreases-writing : goal.decreases-writing
decreases-writing g l = length l.text - l.sent
