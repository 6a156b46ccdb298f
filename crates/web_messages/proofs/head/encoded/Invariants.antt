use Rattle.std.proofs.Common.{◌≡◌, ◌++◌, flat_map, length}
use Rattle.web_messages.specs.Heads.{encoded_byte}
use Rattle.web_messages.proofs.head.encoded.Given as goal

abbrev pub invariant-bytes : goal.invariant-bytes
invariant-bytes l =
    l.bytes.items ++ flat_map encoded_byte l.rest ≡ flat_map encoded_byte l.fn.target

abbrev pub decreases-bytes : goal.decreases-bytes
decreases-bytes l = length l.rest
