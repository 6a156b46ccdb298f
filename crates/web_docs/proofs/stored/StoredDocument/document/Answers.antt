use Rattle.web_docs.proofs.stored.StoredDocument.document.Goals as goal

pub returns : goal.returns
returns c = c.self.view_is
