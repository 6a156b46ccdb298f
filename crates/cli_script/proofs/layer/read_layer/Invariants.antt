use Rattle.std.proofs.Common.{◌≡◌, length}
use Rattle.cli_script.specs.LayerLines.{no_settings}
use Rattle.cli_script.proofs.LayerLinesLemmas.{layer_on, pieces}
use Rattle.cli_script.proofs.layer.read_layer.Given as goal

abbrev pub invariant-settings : goal.invariant-settings
invariant-settings l = layer_on l.layer (pieces l.rest) ≡ layer_on no_settings (pieces l.text)

abbrev pub decreases-settings : goal.decreases-settings
decreases-settings l = length l.rest
