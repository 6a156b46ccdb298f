use Rattle.std.proofs.Common.{Err, subst}
use Rattle.web_docs.specs.Stores.{MakesStore}
use Rattle.demo_content.specs.StoredDocuments.{demo_documents}
use Rattle.demo_content.proofs.StoredDocumentsLemmas.{none_is_wrong}
use Rattle.demo_content.proofs.documents.make_store.Goals as goal

pub unreachable-requires : goal.unreachable-requires
unreachable-requires c =
    none_is_wrong c.in-Err-Of.field-0-0
    (subst (λ e. MakesStore demo_documents (Err e)) c.in-Err-Of.field-0-is
    (subst (λ d. MakesStore d (Err c.in-Err-Of.field-0)) c.in_ok-all_documents.ensures c.in-Err-Of.ensures))
