use Rattle.std.proofs.Common.{ap, subst, ◌∙◌}
use Rattle.web_docs.specs.DescribedReplies.{SendsFor}
use Rattle.web_docs.specs.Verdicts.{verdict_of}
use Rattle.web_docs.proofs.replies.described_reply.Goals as goal

pub returns : goal.returns
returns g c = record {
  whole = c.in_ok-reply.reply;
  replies = subst (λ v. SendsFor (g.H.ReplyHeaders.describes c.args.content.now) c.args.length v c.in_ok-reply.reply)
      (c.read_verdict-verdict.ensures
      ∙ ap (λ t. verdict_of c.args.method.now c.args.headers.now t c.last_change.result) c.entity_tag.ensures
      ∙ ap (λ m. verdict_of c.args.method.now c.args.headers.now (g.H.ReplyHeaders.describes c.args.content.now).tag m) c.last_change.ensures)
      c.in_ok-reply.ensures;
  is = c.for_method.ensures;
}
