use Rattle.std.proofs.Common.{refl}
use Rattle.web_worker.specs.Exchanges.{FlightView}
use Rattle.web_answering.proofs.laws.one_reply_law.Goals as goal

pub returns : goal.returns
returns g c = λ handler worker x d r p once may. let m = may (FlightView.Waiting x) refl refl in (once.once m.0 p m.1).1
