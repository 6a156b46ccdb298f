use Rattle.std.proofs.Common.{subst, sym}
use Rattle.web_request.specs.ReadyLayers.{AllReady}
use Rattle.web_request.proofs.SharedLemmas.{behind_again}
use Rattle.web_request.proofs.request.HttpRequest.shared.Goals as goal

pub invariant_of-result : goal.invariant_of-result
invariant_of-result g c =
    subst (AllReady g.A.Layer.AppLayer.ready)
    (sym (behind_again c.self.inside.root c.in_ok-root.root c.self.inside.layers.items c.in_ok-layers.layers.items
    c.in_ok-root.ensures c.in_ok-layers.ensures)) c.self.invariant
