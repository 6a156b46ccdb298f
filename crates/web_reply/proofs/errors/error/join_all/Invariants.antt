use Rattle.std.proofs.Common.{◌≡◌, ◌≤◌, length}
use Rattle.web_reply.specs.JoinedErrors.{members}
use Rattle.web_reply.proofs.errors.error.join_all.Given as goal

abbrev pub invariant-loop-error : goal.invariant-loop-error
invariant-loop-error l = record {
  members : l.members.items ≡ members l.yielded;
  each : length l.yielded ≤ length l.members.items;
}
