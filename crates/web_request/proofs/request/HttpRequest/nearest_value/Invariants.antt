use Rattle.std.proofs.Common.{◌≡◌, length}
use Rattle.web_request.specs.ReadyLayers.{AllReady}
use Rattle.web_request.specs.Shared.{values_behind}
use Rattle.web_request.specs.Nearest.{nearest}
use Rattle.web_request.proofs.request.HttpRequest.nearest_value.Given as goal

abbrev pub invariant-loop-layer : goal.invariant-loop-layer
invariant-loop-layer g l = record {
  same : nearest g.W.Wanted.value (values_behind l.self-inside.root l.left) ≡ nearest g.W.Wanted.value l.fn.self.request.layers;
  ready : AllReady g.A.Layer.AppLayer.ready (values_behind l.self-inside.root l.left);
}

abbrev pub decreases-loop-layer : goal.decreases-loop-layer
decreases-loop-layer g l = length l.left
