use Rattle.web_extract_body.proofs.either_steps.next_state.Goals as goal

pub returns-in-Bytes : goal.returns-in-Bytes
returns-in-Bytes g c = rw c.in-Bytes.is c.poll_bytes.ensures

pub returns-in-Left : goal.returns-in-Left
returns-in-Left g c = rw c.in-Left.is c.poll_left.ensures

pub returns-in-Right : goal.returns-in-Right
returns-in-Right g c = rw c.in-Right.is c.poll_right.ensures
