use Rattle.web_routing.proofs.TableLemmas.{pair_added, pair_refused}
use Rattle.web_routing.proofs.services.Tuple2Routes.add_to.Goals as goal

pub returns-clause-ok : goal.returns-clause-ok
returns-clause-ok g c =
    pair_added c.add_to-2.result (g.X.Routes.rows c.args.self.now.0)
    (g.Y.Routes.rows c.args.self.now.1) c.args.table.now c.add_to.new.table c.add_to-2.new.table
    c.in_ok-add_to.ensures.ok c.add_to-2.ensures.ok

pub returns-clause-refused : goal.returns-clause-refused
returns-clause-refused g c =
    pair_refused c.add_to-2.result (g.X.Routes.rows c.args.self.now.0)
    (g.Y.Routes.rows c.args.self.now.1) c.args.table.now c.add_to.new.table
    c.in_ok-add_to.ensures.ok c.add_to-2.ensures.refused
