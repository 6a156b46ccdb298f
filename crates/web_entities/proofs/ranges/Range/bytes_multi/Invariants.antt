use Rattle.std.proofs.Common.{◌≡◌, take}
use Rattle.web_entities.specs.ByteRanges.{from_pairs}
use Rattle.web_entities.proofs.ranges.Range.bytes_multi.Given as goal

abbrev pub invariant-loop-pair : goal.invariant-loop-pair
invariant-loop-pair l = l.specs.items ≡ from_pairs (take l.pair-index l.fn.ranges.items)
