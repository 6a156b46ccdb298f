use Rattle.web_body.proofs.errors.form_error.UrlencodedErrorDisplay.fmt.Goals as goal

pub returns-in-Overflow-clause-writes : goal.returns-in-Overflow-clause-writes
returns-in-Overflow-clause-writes g c = rw c.in-Overflow.is c.write.ensures.writes
