use Rattle.web_extract.proofs.RefusalsLemmas.{closure_refuses}
use Rattle.web_extract.proofs.config.refuse.ByFnRefuse.refuse.Goals as goal

-- src/config/refuse.rt:35:5
pub returns : goal.returns
returns g c = closure_refuses g.F.Fn c.args.self.now.0 c.args.fault c.args.head c.call.result (record { met = c.call.ensures })
