use Rattle.std.proofs.Common.{◌∙◌, ◌++◌, ◌||◌, Bool, List, ℕ, ap}
use Rattle.web_reply.specs.ResponseBodies.{box_plain}
use Rattle.web_reply.specs.Replies.{plain_reply}
use Rattle.web_http1.specs.BegunReplies.{begun_head}
use Rattle.web_http1.specs.ReplyBytes.{head_closes}
use Rattle.web_http1.proofs.BegunLemmas.{begins_reply}
use Rattle.web_http1.proofs.beginning.begin_reply.Goals as goal

pub returns-clause-ok : goal.returns-clause-ok
returns-clause-ok g c =
    let feed = g.S.Source.feed in
    begins_reply feed c.args.asked c.args.settings.now (plain_reply (box_plain feed) c.args.response) c.args.out.now.items c.put_both.new.out.items c.head-head.result.now
    (box_plain feed c.into_parts-response.result.1) c.has_no_body-absent.result c.closes_after-closes.result c.framing_of-framing.result c.stated_framing-stated.result
    c.as_slice.result.now c.bytes_at_once.result.now c.due_of.result
    (c.head-head.ensures ∙ ap (λ r. r.head) c.into_parts-response.ensures.rest)
    (ap (box_plain feed) c.into_parts-response.ensures.body)
    c.has_no_body-absent.ensures
    c.framing_of-framing.ensures
    c.stated_framing-stated.ensures
    (c.closes_after-closes.ensures ∙ ap (λ (b : Bool). b || head_closes c.head-head.result.now.connection) c.ends_after.ensures)
    (c.as_slice.ensures.value ∙ c.in_ok-put_begun_head.ensures
    ∙ ap (λ (t : List ℕ). t ++ begun_head c.args.settings.now.date c.head-head.result.now c.stated_framing-stated.result c.closes_after-closes.result) c.clear.ensures.items)
    c.bytes_at_once.ensures
    c.in_ok-put_both.ensures.ok
    c.due_of.ensures
