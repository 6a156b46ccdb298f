use denote.Shadow.{shadow}
use denote.Text.{Utf8}
use Rattle.std.proofs.Common.{◌≡◌, ◌++◌, ℕ, List, length}
use Rattle.std.specs.List.{slice_split}
use Rattle.web_texts.specs.Bytes.{is_comma}
use Rattle.web_forwarded.specs.ForwardedPairs.{said_by}
use Rattle.web_forwarded.proofs.ForwardedLemmas.{IsSoFar}
use Rattle.web_forwarded.proofs.forwarded_pairs.Forwarded.or_part.Given as goal

abbrev pub invariant-pairs : goal.invariant-pairs
invariant-pairs l = record {
  so_far : (front : List (List ℕ)) → l.fn.self ≡ said_by front
      → IsSoFar l.said (slice_split is_comma l.rest) (front ++ slice_split is_comma l.text);
  text : shadow (Utf8 l.rest);
}

abbrev pub decreases-pairs : goal.decreases-pairs
decreases-pairs l = length l.rest
