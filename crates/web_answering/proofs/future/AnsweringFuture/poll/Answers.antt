use Rattle.std.proofs.Common.{◌≡◌, ◌∙◌, sym, false}
use Rattle.web_reply.specs.ResponseBodies.{box_plain}
use Rattle.web_reply.specs.Replies.{plain_reply}
use Rattle.web_answering.specs.FlightReplies.{is_answered}
use Rattle.web_answering.proofs.FlightReplyLemmas.{if_ok}
use Rattle.web_answering.proofs.future.AnsweringFuture.poll.Goals as goal

pub returns-then-is_answered-clause-value : goal.returns-then-is_answered-clause-value
returns-then-is_answered-clause-value g c =
    if_ok c.take_reply.result _ _ (λ reply h. c.poll_once.ensures.now (plain_reply (box_plain g.A.Source.Source.feed) reply) h) c.take_reply.ensures

pub returns-clause-same : goal.returns-clause-same
returns-clause-same g c =
    let not_yet : is_answered c.poll_once.new.flight ≡ false = sym c.is_answered.ensures ∙ c.if-is_answered.false in
    rw c.yield_now.ensures.pending (λ x h. if_ok x _ _ (λ reply m. c.poll_once.ensures.later (plain_reply (box_plain g.A.Source.Source.feed) reply) not_yet m) h)
