use Rattle.web_routing.proofs.services.Tuple2Services.poll_at.Goals as goal

pub returns-in-First-clause-calls : goal.returns-in-First-clause-calls
returns-in-First-clause-calls g c = rw c.in-First.is c.poll_at.ensures.calls

pub returns-in-Other-clause-calls : goal.returns-in-Other-clause-calls
returns-in-Other-clause-calls g c = rw c.in-Other.is c.poll_at-in-Other.ensures.calls
