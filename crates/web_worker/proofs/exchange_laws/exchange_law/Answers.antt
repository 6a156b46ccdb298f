use Rattle.web_extract.specs.ListMeanings.{Member}
use Rattle.web_worker.specs.HandlerServices.{handler_setting, rules_of}
use Rattle.web_worker.proofs.ExchangeLawLemmas.{answered, argued, argued_once, bridged, came}
use Rattle.web_worker.proofs.ExchangeLawLemmas.{exactly_once, exchanged, refused_once, seen_itself}
use Rattle.web_worker.proofs.exchange_laws.exchange_law.Goals as goal

pub returns-clause-value : goal.returns-clause-value
returns-clause-value g c = λ q m rest d w u r seen only.
    exchanged (rules_of g.Args.FromRequest.means g.Args.Error.Into.converts
    (g.H.Handler.answers c.args.handler.now) g.H.Output.Responder.responds) q
    g.met.Args.FromRequest.converted g.V.View.view m rest d w u r seen only

pub returns-clause-refusal : goal.returns-clause-refusal
returns-clause-refusal g c = λ q m rest d f seen.
    refused_once (rules_of g.Args.FromRequest.means g.Args.Error.Into.converts
    (g.H.Handler.answers c.args.handler.now) g.H.Output.Responder.responds) q
    g.met.Args.FromRequest.converted g.V.View.view m rest d f seen

pub returns-clause-exactly : goal.returns-clause-exactly
returns-clause-exactly g c = λ q m rest d w v y r exact answers responds.
    exactly_once (rules_of g.Args.FromRequest.means g.Args.Error.Into.converts
    (g.H.Handler.answers c.args.handler.now) g.H.Output.Responder.responds) q
    g.met.Args.FromRequest.converted m rest d w v y r exact answers responds

pub returns-clause-came : goal.returns-clause-came
returns-clause-came g c = λ q m d w r leads.
    came (rules_of g.Args.FromRequest.means g.Args.Error.Into.converts
    (g.H.Handler.answers c.args.handler.now) g.H.Output.Responder.responds) q m d w r leads

pub returns-clause-worker : goal.returns-clause-worker
returns-clause-worker g c = λ pool x m d r e o.
    bridged (handler_setting g.Args.FromRequest.means g.Args.Error.Into.converts
    (g.H.Handler.answers c.args.handler.now) g.H.Output.Responder.responds
    g.A.Source.Source.feed g.Args.Future.Poll.gives g.H.Future.Poll.gives pool) x m d r e o

pub returns-clause-answers : goal.returns-clause-answers
returns-clause-answers g c = λ pool x m rest v reply e seen only.
    let s = handler_setting g.Args.FromRequest.means g.Args.Error.Into.converts
    (g.H.Handler.answers c.args.handler.now) g.H.Output.Responder.responds
    g.A.Source.Source.feed g.Args.Future.Poll.gives g.H.Future.Poll.gives pool in
    bridged s x m v.delay _ e
    (answered (rules_of g.Args.FromRequest.means g.Args.Error.Into.converts
    (g.H.Handler.answers c.args.handler.now) g.H.Output.Responder.responds) (s.request x)
    g.met.Args.FromRequest.converted g.V.View.view m rest reply v.delay v.result seen only)

pub returns-clause-arguments : goal.returns-clause-arguments
returns-clause-arguments g c = λ pool x m rest v e exact.
    let s = handler_setting g.Args.FromRequest.means g.Args.Error.Into.converts
    (g.H.Handler.answers c.args.handler.now) g.H.Output.Responder.responds
    g.A.Source.Source.feed g.Args.Future.Poll.gives g.H.Future.Poll.gives pool in
    argued_once s x m v.delay _ e
    (argued (rules_of g.Args.FromRequest.means g.Args.Error.Into.converts
    (g.H.Handler.answers c.args.handler.now) g.H.Output.Responder.responds) (s.request x)
    g.met.Args.FromRequest.converted m rest v exact)

pub returns-clause-exact : goal.returns-clause-exact
returns-clause-exact g c = λ pool x m rest v reply e exact only.
    let s = handler_setting g.Args.FromRequest.means g.Args.Error.Into.converts
    (g.H.Handler.answers c.args.handler.now) g.H.Output.Responder.responds
    g.A.Source.Source.feed g.Args.Future.Poll.gives g.H.Future.Poll.gives pool in
    bridged s x m v.delay _ e
    (answered (rules_of g.Args.FromRequest.means g.Args.Error.Into.converts
    (g.H.Handler.answers c.args.handler.now) g.H.Output.Responder.responds) (s.request x)
    g.met.Args.FromRequest.converted (λ u. u) m rest reply v.delay v.result
    (seen_itself (Member g.Args.Error.Into.converts (g.Args.FromRequest.means (s.request x)))
    m rest v exact) only)
