use Rattle.web_worker.specs.Setting.{setting_of}
use Rattle.web_testing.proofs.PromisedRepliesLemmas.{reply_is}
use Rattle.web_testing.proofs.serving.reply_law.Goals as goal

pub returns : goal.returns
returns g c = λ pool x d r more once o h.
    reply_is (setting_of (g.H.Service.completed c.args.handler.now)
    (g.H.Service.promise c.args.handler.now) (g.H.Service.left c.args.handler.now)
    g.A.Source.Source.feed pool) x d r more once o h
