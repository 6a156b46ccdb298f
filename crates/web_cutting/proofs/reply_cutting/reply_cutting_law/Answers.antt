use Rattle.web_cutting.proofs.CutRepliesLemmas.{cuts_replies}
use Rattle.web_cutting.proofs.reply_cutting.reply_cutting_law.Goals as goal

pub returns : goal.returns
returns g c = λ pool handler.
    cuts_replies g.A.FromRequest.means g.A.Error.Into.converts (g.H.Handler.answers handler) g.H.Output.Responder.responds
    g.P.Source.Source.feed g.A.Future.Poll.gives g.H.Future.Poll.gives pool
