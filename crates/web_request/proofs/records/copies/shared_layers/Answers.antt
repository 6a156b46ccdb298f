use Rattle.web_request.proofs.SharedLemmas.{values_again}
use Rattle.web_request.proofs.records.copies.shared_layers.Goals as goal

pub returns : goal.returns
returns g c = values_again c.args.pointers.now.items c.in_ok-clone.field-0.items c.in_ok-clone.ensures.cases.0
