use Rattle.web_body.proofs.EmptyPiecesLemmas.{body_same}
use Rattle.web_cli.proofs.demo_flights.body_of.Goals as goal

pub new-requires-clause-body : goal.new-requires-clause-body
new-requires-clause-body c = rw (body_same c.args.marks.items c.requires.body) c.requires.body
