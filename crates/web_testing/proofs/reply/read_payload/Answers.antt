use Rattle.web_testing.proofs.TestRepliesLemmas.{refuses_late}
use Rattle.web_testing.proofs.reply.read_payload.Goals as goal

pub returns-in-Err-clause-refused : goal.returns-in-Err-clause-refused
returns-in-Err-clause-refused g c = refuses_late _ _ c.to_bytes.ensures.means c.in-Err.error c.in-Err.ensures.refused
