use Rattle.web_routing.proofs.RouteTableLemmas.{inserted_ascii}
use Rattle.web_routing.proofs.route_table.RouteTable.add_resource.Goals as goal

pub invariant_of-self-2 : goal.invariant_of-self-2
invariant_of-self-2 c =
    inserted_ascii c.args.pattern.now c.len.result c.self.inside.patterns c.insert.new.self
    c.if-not-is_ascii.ensures.cases c.self.invariant c.in-Ok-insert.ensures
