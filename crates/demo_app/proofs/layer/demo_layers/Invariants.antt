use Rattle.std.proofs.Common.{◌≡◌, ◌++◌, map}
use Rattle.std.specs.Vec.Iter.{into_iter_items}
use Rattle.web_request.specs.Shared.{values}
use Rattle.demo_app.specs.DemoLayers.{demo_layer}
use Rattle.demo_app.proofs.layer.demo_layers.Given as goal

abbrev pub invariant-loop-settings : goal.invariant-loop-settings
invariant-loop-settings l =
    (l.yielded ++ into_iter_items l.settings-iterator ≡ l.fn.lines.items)
    × (values l.layers.items ≡ map demo_layer l.yielded)
