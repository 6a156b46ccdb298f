-- Nothing is wrong with the documents of `/doc`, and a request has one reply.
use Rattle.std.proofs.Common.{◌≡◌, List, [], ◌∷◌, ◌++◌, Option, None, Some, Result, Ok, Err, refl, subst}
use Rattle.std.specs.Prelude.{IfOk}
use Rattle.web_request.specs.Head.{Head}
use Rattle.web_reply.specs.Replies.{Reply}
use Rattle.web_reply.specs.declared.body.WholeBody.{WholeBody}
use Rattle.web_docs.proofs.DocumentFunctionsLemmas.{one_document_reply}
use Rattle.web_docs.specs.DocumentFunctions.{document_reply}
use Rattle.web_docs.specs.DocumentReplies.{IsDocumentReply}
use Rattle.web_docs.specs.Stores.{IsFirstFault, fault_behind}
use Rattle.web_docs.specs.declared.document.Document.{Document}
use Rattle.web_docs.specs.declared.document.StoreFault.{StoreFault}
use Rattle.web_texts.specs.Tokens.{is_token_byte}
use Rattle.demo_content.specs.StoredDocuments.{demo_documents, digits_document, empty_document}

first_is_sound : fault_behind [] digits_document ≡ None
unfolding is_token_byte
first_is_sound = refl

second_is_sound : fault_behind (digits_document ∷ []) empty_document ≡ None
unfolding is_token_byte
second_is_sound = refl

no_fault : (before : List Document) (d : Document) (after : List Document) → demo_documents ≡ before ++ d ∷ after → fault_behind before d ≡ None
no_fault [] d after parts =
    let same : digits_document ≡ d = cc in
    subst (λ e. fault_behind [] e ≡ None) same first_is_sound
no_fault (x ∷ []) d after parts =
    let first : digits_document ≡ x = cc in
    let second : empty_document ≡ d = cc in
    subst (λ e. fault_behind (x ∷ []) e ≡ None) second (subst (λ e. fault_behind (e ∷ []) empty_document ≡ None) first second_is_sound)
no_fault (x ∷ y ∷ []) d after parts = absurd cc
no_fault (x ∷ y ∷ z ∷ more) d after parts = absurd cc

pub none_is_wrong : (f : StoreFault) → IsFirstFault demo_documents f → ⊥
none_is_wrong f is =
    let sound : fault_behind is.before is.document ≡ None = no_fault is.before is.document is.after is.parts in
    let wrong : fault_behind is.before is.document ≡ Some f = is.wrong in
    absurd cc

pub one_reply : {E : Type 0} (found : Option Document) (head : Head) (r : Result (Reply WholeBody) E) → IfOk r (λ reply. IsDocumentReply found head reply) → IfOk r (λ reply. reply ≡ document_reply found head)
one_reply found head (Ok reply) is = one_document_reply found head reply is
one_reply found head (Err e) is = tt
