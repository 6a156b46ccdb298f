use denote.Shadow.{shadow}
use denote.Text.{Utf8}
use Rattle.std.proofs.Common.{◌≡◌, ◌++◌, ℕ, List, length}
use Rattle.web_forwarded.specs.ForwardedPairs.{pairs_of, said_by}
use Rattle.web_forwarded.proofs.ForwardedLemmas.{IsSoFar}
use Rattle.web_forwarded.proofs.forwarded_pairs.Forwarded.or_text.Given as goal

abbrev pub invariant-parts : goal.invariant-parts
invariant-parts l = record {
  so_far : (front : List (List ℕ)) → l.fn.self ≡ said_by front → IsSoFar l.said (pairs_of l.rest) (front ++ pairs_of l.text);
  text : shadow (Utf8 l.rest);
}

abbrev pub decreases-parts : goal.decreases-parts
decreases-parts l = length l.rest
