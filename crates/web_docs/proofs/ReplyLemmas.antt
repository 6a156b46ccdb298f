-- Replies to requests for documents, from their parts.
use Rattle.std.proofs.Common.{◌≡◌, ℕ, List, Option, Some, Result, subst}
use Rattle.std.specs.Prelude.{IfOk}
use Rattle.web_request.specs.Head.{Head}
use Rattle.web_reply.specs.Replies.{Reply}
use Rattle.web_reply.specs.declared.body.WholeBody.{WholeBody}
use Rattle.web_docs.specs.Conditions.{Headers}
use Rattle.web_docs.specs.DocumentReplies.{Answers, IsDocumentReply}
use Rattle.web_docs.specs.declared.document.Document.{Document}

pub document_replied : {E : Type 0} (found : Option Document) (head : Head) (d : Document) (method : List ℕ) (headers : Headers) (r : Result (Reply WholeBody) E) → Some d ≡ found → method ≡ head.method → headers ≡ head.headers → IfOk r (λ reply. Answers d method headers reply) → IfOk r (λ reply. IsDocumentReply found head reply)
document_replied found head d method headers r is m h answers =
    subst (λ f. IfOk r (λ reply. IsDocumentReply f head reply)) is
    (subst (λ x. IfOk r (λ reply. Answers d x head.headers reply)) m
    (subst (λ x. IfOk r (λ reply. Answers d method x reply)) h answers))
