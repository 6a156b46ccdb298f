use Rattle.std.proofs.Common.{◌≡◌, refl}
use Rattle.std.specs.Prelude.{Ok, Err}
use Rattle.web_worker.specs.HandlerServices.{handler_setting, rules_of}
use Rattle.web_worker.proofs.ExchangeLawLemmas.{answered, bridged, exchanged, member_seen}
use Rattle.web_worker.proofs.ExchangeLawLemmas.{refused_once, seen_itself}
use Rattle.web_worker.proofs.exchange_laws.list_exchange_law.Goals as goal

pub returns-clause-value : goal.returns-clause-value
returns-clause-value g c = λ q m rest d w u r seen only.
    exchanged (rules_of g.Args.FromRequest.means (λ e f. f ≡ e)
    (g.H.Handler.answers c.args.handler.now) g.H.Output.Responder.responds) q (λ e. (e, refl))
    g.V.View.view m rest d w u r
    (member_seen g.V.View.view (g.Args.FromRequest.means q) m rest
    (record { delay = d; result = Ok u }) seen) only

pub returns-clause-refusal : goal.returns-clause-refusal
returns-clause-refusal g c = λ q m rest d f seen.
    refused_once (rules_of g.Args.FromRequest.means (λ e f. f ≡ e)
    (g.H.Handler.answers c.args.handler.now) g.H.Output.Responder.responds) q (λ e. (e, refl))
    g.V.View.view m rest d f
    (member_seen g.V.View.view (g.Args.FromRequest.means q) m rest
    (record { delay = d; result = Err f }) seen)

pub returns-clause-answers : goal.returns-clause-answers
returns-clause-answers g c = λ pool x m rest v reply e seen only.
    let s = handler_setting g.Args.FromRequest.means (λ e f. f ≡ e)
    (g.H.Handler.answers c.args.handler.now) g.H.Output.Responder.responds
    g.A.Source.Source.feed g.Args.Future.Poll.gives g.H.Future.Poll.gives pool in
    bridged s x m v.delay _ e
    (answered (rules_of g.Args.FromRequest.means (λ e f. f ≡ e)
    (g.H.Handler.answers c.args.handler.now) g.H.Output.Responder.responds) (s.request x)
    (λ e. (e, refl)) g.V.View.view m rest reply v.delay v.result
    (member_seen g.V.View.view (g.Args.FromRequest.means (s.request x)) m rest v seen) only)

pub returns-clause-exact : goal.returns-clause-exact
returns-clause-exact g c = λ pool x m rest v reply e exact only.
    let s = handler_setting g.Args.FromRequest.means (λ e f. f ≡ e)
    (g.H.Handler.answers c.args.handler.now) g.H.Output.Responder.responds
    g.A.Source.Source.feed g.Args.Future.Poll.gives g.H.Future.Poll.gives pool in
    bridged s x m v.delay _ e
    (answered (rules_of g.Args.FromRequest.means (λ e f. f ≡ e)
    (g.H.Handler.answers c.args.handler.now) g.H.Output.Responder.responds) (s.request x)
    (λ e. (e, refl)) (λ u. u) m rest reply v.delay v.result
    (member_seen (λ u. u) (g.Args.FromRequest.means (s.request x)) m rest v
    (seen_itself (g.Args.FromRequest.means (s.request x)) m rest v exact)) only)
