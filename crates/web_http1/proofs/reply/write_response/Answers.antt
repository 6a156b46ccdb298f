use Rattle.std.proofs.Common.{◌∙◌, [], Some, ap, sym}
use Rattle.web_reply.specs.ResponseBodies.{box_plain}
use Rattle.web_reply.specs.Replies.{plain_reply}
use Rattle.web_http1.specs.ReplyBytes.{content_of}
use Rattle.web_http1.proofs.InPlaceLemmas.{at_once}
use Rattle.web_http1.proofs.reply.write_response.Goals as goal

pub returns-in_ok-closes-in-Empty-clause-ok : goal.returns-in_ok-closes-in-Empty-clause-ok
returns-in_ok-closes-in-Empty-clause-ok g c =
    at_once c.args.is_head c.args.asked (plain_reply (box_plain g.S.Source.feed) c.args.response.now) c.head-head.result.now [] c.args.out.now.items c.write_parts.new.out.items
    c.in_ok-closes-in-Empty.closes c.head-head.ensures (ap (λ b. content_of (box_plain g.S.Source.feed b)) (sym c.body.ensures ∙ c.in-Empty.is)) c.in_ok-closes-in-Empty.ensures.ok

pub returns-in_ok-closes-in-Bytes-clause-ok : goal.returns-in_ok-closes-in-Bytes-clause-ok
returns-in_ok-closes-in-Bytes-clause-ok g c =
    at_once c.args.is_head c.args.asked (plain_reply (box_plain g.S.Source.feed) c.args.response.now) c.head-head-in-Bytes.result.now c.as_slice-bytes.result.now c.args.out.now.items c.write_parts-in-Bytes.new.out.items
    c.in_ok-closes-in-Bytes.closes c.head-head-in-Bytes.ensures
    (ap (λ b. content_of (box_plain g.S.Source.feed b)) (sym c.body.ensures ∙ c.in-Bytes.is) ∙ ap Some (sym c.as_slice-bytes.ensures)) c.in_ok-closes-in-Bytes.ensures.ok
