use Rattle.std.proofs.Common.{◌≡◌, length}
use Rattle.web_texts.specs.MediaTypes.{value_in}
use Rattle.web_texts.proofs.media.media_type.first_value.Given as goal

abbrev pub invariant-params : goal.invariant-params
invariant-params l = value_in l.name l.rest ≡ value_in l.name l.params

abbrev pub decreases-params : goal.decreases-params
decreases-params l = length l.rest
