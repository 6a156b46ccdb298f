use Rattle.std.proofs.Common.{◌∙◌, sym, ap}
use Rattle.std.specs.FinMap as map
use Rattle.web_docs.proofs.StoreLemmas.{got_text}
use Rattle.web_docs.proofs.store.Store.stored.Goals as goal

pub returns : goal.returns
returns c = c.get.ensures.value ∙ sym (got_text _ c.args.path.now) ∙ ap (λ m. map.get m c.args.path.now) c.self.view_is
