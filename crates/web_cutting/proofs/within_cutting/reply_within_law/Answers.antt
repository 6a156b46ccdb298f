use Rattle.web_cutting.proofs.CutRepliesLemmas.{cuts_replies_within}
use Rattle.web_cutting.proofs.within_cutting.reply_within_law.Goals as goal

pub returns : goal.returns
returns g c = λ pool handler.
    cuts_replies_within g.A.FromRequest.means g.A.Error.Into.converts (g.H.Handler.answers handler) g.H.Output.Responder.responds
    g.P.Source.Source.feed g.A.Future.Poll.gives g.H.Future.Poll.gives pool
