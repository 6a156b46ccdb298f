use Rattle.web_reply.specs.ResponseBodies.{box_plain}
use Rattle.web_reply.specs.Replies.{plain_reply}
use Rattle.web_routing.proofs.StateLemmas.{changed_lost}
use Rattle.web_routing.proofs.wrap.WrapServiceWhole.poll.Goals as goal

pub returns-then-is_err-clause-moves : goal.returns-then-is_err-clause-moves
returns-then-is_err-clause-moves g c =
    changed_lost g.S.Service.states (g.F.Change.changes c.args.self.now.change)
    c.args.self.now.inner c.poll.new.self c.args.request.now.request
    (plain_reply (box_plain g.A.Source.Source.feed) c.in-Reply.reply)
    (rw c.in-Reply.is at c.poll.ensures.moves)
