use Rattle.std.proofs.Common.{◌≡◌, ◌++◌, drop, option_map}
use Rattle.web_codec.specs.FormPairs.{values_of}
use Rattle.demo_app.proofs.FoundLemmas.{found_list}
use Rattle.demo_app.proofs.item_pairs.one_value.Given as goal

abbrev pub invariant-loop-pair : goal.invariant-loop-pair
invariant-loop-pair l =
    found_list (option_map (λ s. s.now) l.found) ++ values_of l.name (drop l.pair-index l.pairs)
    ≡ values_of l.name l.pairs
