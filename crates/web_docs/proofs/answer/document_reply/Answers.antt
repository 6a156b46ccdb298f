use Rattle.std.proofs.Common.{◌≡◌, length, ap, subst, ◌∙◌}
use Rattle.std.specs.Prelude.{IfOk}
use Rattle.web_docs.specs.DescribedReplies.{IsDescribedReply, IsWithin}
use Rattle.web_docs.specs.Descriptions.{description}
use Rattle.web_docs.specs.DocumentReplies.{filled}
use Rattle.web_docs.proofs.SentLemmas.{described_within, filled_answers}
use Rattle.web_docs.proofs.answer.document_reply.Goals as goal

pub filled-requires : goal.filled-requires
filled-requires c =
    subst (λ n. IsWithin n c.in_ok-reply.reply.body) c.len.ensures.value
    (described_within c.len.result (description c.args.document.now) c.args.method.now c.args.headers.now c.in_ok-reply.reply c.in_ok-reply.ensures)

pub returns : goal.returns
returns c =
    filled_answers c.args.document.now c.args.method.now c.args.headers.now c.in_ok-reply.reply c.filled.result
    (subst (λ n. IsDescribedReply (description c.args.document.now) n c.args.method.now c.args.headers.now c.in_ok-reply.reply) (c.len.ensures.value ∙ ap length c.body-content.ensures) c.in_ok-reply.ensures)
    (subst (λ b. IfOk c.filled.result (λ whole. whole ≡ filled b c.in_ok-reply.reply)) c.body-content.ensures c.filled.ensures)
