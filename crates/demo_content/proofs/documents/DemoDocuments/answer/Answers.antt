use Rattle.std.specs.FinMap.{get}
use Rattle.std.proofs.Common.{◌≡◌, sym, subst, ◌∙◌}
use Rattle.std.specs.Prelude.{IfOk}
use Rattle.web_request.specs.Head.{head_path}
use Rattle.web_docs.specs.DocumentReplies.{IsDocumentReply}
use Rattle.web_docs.specs.Stores.{Documents, store_of}
use Rattle.demo_content.specs.StoredDocuments.{demo_documents, found_document}
use Rattle.demo_content.proofs.KeptLemmas.{same_kept}
use Rattle.demo_content.proofs.StoredDocumentsLemmas.{one_reply}
use Rattle.demo_content.proofs.documents.DemoDocuments.answer.Goals as goal

pub returns : goal.returns
returns g c =
    let head = c.args.req.now.request.head in
    let same : c.in-Some.store ≡ store_of demo_documents = same_kept (sym c.in-Some.is ∙ c.in_ok-keep_store.ensures.stored) in
    one_reply (found_document head) head c.answer_document.result
    (subst (λ (s : Documents). IfOk c.answer_document.result (λ reply. IsDocumentReply (get s (head_path head)) head reply)) same c.answer_document.ensures.reply)
