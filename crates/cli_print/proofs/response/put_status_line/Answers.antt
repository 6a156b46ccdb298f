use Rattle.std.specs.Fmt.{digits}
use Rattle.cli_print.proofs.response.put_status_line.Goals as goal

pub returns-then-status-eq200 : goal.returns-then-status-eq200
unfolding digits
returns-then-status-eq200 c = rw c.if-status-eq200.true c.put.ensures
