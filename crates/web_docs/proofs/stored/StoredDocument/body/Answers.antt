use Rattle.std.proofs.Common.{ap}
use Rattle.web_docs.specs.declared.document.Document.{Document}
use Rattle.web_docs.proofs.stored.StoredDocument.body.Goals as goal

pub returns : goal.returns
returns c = ap (λ (d : Document). d.body) c.self.view_is
