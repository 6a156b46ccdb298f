use Rattle.web_routing.proofs.TableLemmas.{refuses_first}
use Rattle.web_routing.proofs.endpoint.EndpointRoutes.add_to.Goals as goal

pub returns-in-Err-clause-refused : goal.returns-in-Err-clause-refused
returns-in-Err-clause-refused g c =
    let pattern = c.as_str-pattern.ensures in
    refuses_first (record { method = c.args.self.now.method; pattern = c.args.self.now.pattern })
    c.args.table.now c.in-Err.cause c.refused.result (rw pattern at c.refused.ensures)
    (rw pattern at c.in-Err.ensures.refused)
