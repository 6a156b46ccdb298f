use Rattle.std.proofs.Common.{◌≡◌, length}
use Rattle.web_entities.specs.DispositionParts.{first_match}
use Rattle.web_entities.proofs.disposition_param.first_match.Given as goal

abbrev pub invariant-loop-param : goal.invariant-loop-param
invariant-loop-param g l = first_match (g.P.ParamPart.value l.fn.part) l.rest ≡ first_match (g.P.ParamPart.value l.fn.part) l.fn.params

abbrev pub decreases-loop-param : goal.decreases-loop-param
decreases-loop-param g l = length l.rest
