use Rattle.std.proofs.Common.{◌≡◌, ◌<◌, ◌≤◌, ◌+◌, ◌^◌, length}
use Rattle.cli_script.proofs.ScriptLoopLemmas.{IsAtLine}
use Rattle.cli_script.proofs.script.read_lines.Given as goal

abbrev pub invariant-lines : goal.invariant-lines
invariant-lines g l = record {
  at : IsAtLine g.S.ExchangeSink.holds l.fn.bytes l.rest l.fn.sink l.sink l.line l.reader;
  small : length l.fn.bytes < 2 ^ 63;
  size : l.size ≡ length l.rest;
  fits : l.line + length l.rest ≤ length l.fn.bytes + 1;
}

abbrev pub decreases-lines : goal.decreases-lines
decreases-lines g l = length l.rest
