use Rattle.test_instances.proofs.UntoldArgumentsLemmas.{extracts_any}
use Rattle.test_instances.proofs.poll_order.LabelFromRequestLabelledSite.from_request.Goals as goal

pub returns-clause-extracts : goal.returns-clause-extracts
returns-clause-extracts c = rw c.take.ensures.after (extracts_any _ _ _)
