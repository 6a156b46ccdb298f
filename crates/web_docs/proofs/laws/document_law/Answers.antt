use Rattle.web_docs.proofs.DocumentFunctionsLemmas.{one_document_reply}
use Rattle.web_docs.proofs.laws.document_law.Goals as goal

pub returns : goal.returns
returns c = one_document_reply
