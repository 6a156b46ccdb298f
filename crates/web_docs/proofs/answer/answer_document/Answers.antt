use Rattle.std.proofs.Common.{ap, refl, sym, subst, ◌∙◌}
use Rattle.std.specs.FinMap as map
use Rattle.std.proofs.lemmas.Option.{none-some}
use Rattle.web_docs.specs.DocumentReplies.{IsDocumentReply}
use Rattle.web_docs.proofs.ReplyLemmas.{document_replied}
use Rattle.web_docs.proofs.answer.answer_document.Goals as goal

pub returns-in-Some : goal.returns-in-Some
returns-in-Some g c =
    let found = c.in-Some.ensures ∙ ap (λ path. map.get c.args.store.now path) c.path.ensures in
    record {
      reply = document_replied _ c.args.req.now.request.head c.in-Some.document.now c.method.result.now c.headers.result.now c.document_reply.result found c.method.ensures c.headers.ensures c.document_reply.ensures;
      memory = λ none. absurd (none-some _ (sym none ∙ sym found));
    }

pub returns-in-None : goal.returns-in-None
returns-in-None g c =
    let found = c.in-None.ensures ∙ ap (λ path. map.get c.args.store.now path) c.path.ensures in
    record {
      reply = subst (λ d. IsDocumentReply d c.args.req.now.request.head c.new.result) found c.new.ensures;
      memory = λ none. refl;
    }
