use Rattle.std.proofs.Common.{None, Some}
use Rattle.web_docs.proofs.SentLemmas.{part_sent}
use Rattle.web_docs.proofs.replies.part_reply.Goals as goal

pub returns-in-Some : goal.returns-in-Some
returns-in-Some g c =
    part_sent (g.H.ReplyHeaders.describes c.args.content.now) c.args.length c.args.spec (Some c.in-Some.ends) c.partial_reply.result c.in-Some.ensures c.partial_reply.ensures

pub returns-in-None : goal.returns-in-None
returns-in-None g c =
    part_sent (g.H.ReplyHeaders.describes c.args.content.now) c.args.length c.args.spec None c.unsatisfiable_reply.result c.in-None.ensures c.unsatisfiable_reply.ensures
