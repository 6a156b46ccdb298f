use Rattle.std.proofs.Common.{◌≡◌, ◌+◌, ◌≤◌, length, option_map}
use Rattle.web_messages.specs.HeadFaults.{fields_of, lines_of}
use Rattle.web_messages.proofs.head_fault.count_fields.Given as goal

abbrev pub invariant-lines : goal.invariant-lines
invariant-lines l = record {
  same : option_map (λ n. n + l.count) (fields_of (lines_of l.rest)) ≡ fields_of (lines_of l.text);
  few : l.count + length l.rest ≤ length l.text;
}

abbrev pub decreases-lines : goal.decreases-lines
decreases-lines l = length l.rest
