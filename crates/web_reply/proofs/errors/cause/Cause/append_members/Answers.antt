use Rattle.std.proofs.Common.{rules}
use Rattle.web_reply.proofs.JoinedErrorsLemmas.{one_member}
use Rattle.web_reply.proofs.errors.cause.Cause.append_members.Goals as goal

pub returns-in_default : goal.returns-in_default
returns-in_default c = let one = one_member c.args.self c.in_default.not-Several in search rules
