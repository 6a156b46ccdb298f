use Rattle.std.proofs.Common.{◌≡◌, drop, map}
use Rattle.web_codec.specs.DataReaders.{is_one_of}
use Rattle.web_codec.proofs.members.is_one_of.Given as goal

abbrev pub invariant-loop-name : goal.invariant-loop-name
invariant-loop-name l =
    is_one_of l.text (map (λ n. n.now) (drop l.name-index l.names)) ≡ is_one_of l.text (map (λ n. n.now) l.names)
