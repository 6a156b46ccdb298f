use Rattle.std.proofs.Common.{◌≡◌, length}
use Rattle.web_messages.specs.HeadFaults.{from_start, lines_of}
use Rattle.web_messages.proofs.head_fault.request_line.Given as goal

abbrev pub invariant-lines : goal.invariant-lines
invariant-lines l = record {
  same : from_start (lines_of l.rest) ≡ from_start (lines_of l.text);
}

abbrev pub decreases-lines : goal.decreases-lines
decreases-lines l = length l.rest
