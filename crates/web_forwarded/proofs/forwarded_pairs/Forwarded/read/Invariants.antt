use Rattle.std.specs.Prelude.{codes}
use Rattle.http_header.specs.HeaderMap.{get_all}
use Rattle.web_forwarded.specs.ForwardedPairs.{forwarded_pairs}
use Rattle.web_forwarded.proofs.ForwardedLemmas.{IsSoFar}
use Rattle.web_forwarded.proofs.forwarded_pairs.Forwarded.read.Given as goal

abbrev pub invariant-loop-value : goal.invariant-loop-value
invariant-loop-value l = IsSoFar l.said (forwarded_pairs l.value-iterator) (forwarded_pairs (get_all l.fn.headers (codes "forwarded")))
