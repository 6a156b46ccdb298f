use Rattle.web_reply.specs.ResponseBodies.{box_plain}
use Rattle.web_reply.specs.Replies.{plain_reply}
use Rattle.web_http1.proofs.answering.write_read.Goals as goal

pub returns-clause-ok : goal.returns-clause-ok
returns-clause-ok g c = record {
  reply = plain_reply (box_plain g.A.Source.Source.feed) c.in_ok-response.response;
  last = c.in_ok-response.ensures.took;
  sent = c.in_ok-reply.reply;
  states = c.in_ok-reply.ensures.stated;
  from = c.in_ok-reply.ensures.from;
  written = (c.closes.ensures, c.in_ok-write_reply.ensures.ok);
}
