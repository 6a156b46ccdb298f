use Rattle.web_worker.specs.Setting.{setting_of}
use Rattle.web_worker.proofs.ExchangeLawLemmas.{each_answered}
use Rattle.web_worker.proofs.exchange_laws.plan_law.Goals as goal

pub returns : goal.returns
returns g c = λ pool delay reply once plan xs os h.
    each_answered (setting_of (g.S.Service.completed c.args.service.now)
    (g.S.Service.promise c.args.service.now) (g.S.Service.left c.args.service.now)
    g.A.Source.Source.feed pool) delay reply once plan xs os h
