use Rattle.web_body.proofs.errors.json_error.JsonPayloadErrorDisplay.fmt.Goals as goal

pub returns-in-OverflowKnownLength-clause-writes : goal.returns-in-OverflowKnownLength-clause-writes
returns-in-OverflowKnownLength-clause-writes g c = rw c.in-OverflowKnownLength.is c.write.ensures.writes
