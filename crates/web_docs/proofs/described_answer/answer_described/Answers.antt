use Rattle.web_docs.proofs.SentLemmas.{described_within}
use Rattle.web_docs.proofs.described_answer.answer_described.Goals as goal

pub returns : goal.returns
returns c = record {
  reply = c.in_ok-reply.ensures;
  within = described_within c.args.length c.args.described.now c.args.method.now c.args.headers.now c.in_ok-reply.reply c.in_ok-reply.ensures;
}
