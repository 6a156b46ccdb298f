use Rattle.std.proofs.Common.{◌≡◌, map, take}
use Rattle.web_extract_head.specs.PathArgument.{decoded_parameter}
use Rattle.web_extract_head.proofs.path_parameters.decoded_parameters.Given as goal

abbrev pub invariant-loop-param : goal.invariant-loop-param
invariant-loop-param l = l.pairs.items ≡ map decoded_parameter (take l.param-index l.params)
