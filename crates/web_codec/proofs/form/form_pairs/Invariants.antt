use Rattle.std.proofs.Common.{◌≡◌, ◌++◌, map}
use Rattle.form_urlencoded.specs.Parse.{pairs_left}
use Rattle.web_codec.specs.FormPairs.{decoded_pair, form_pairs}
use Rattle.web_codec.proofs.form.form_pairs.Given as goal

abbrev pub invariant-loop-item : goal.invariant-loop-item
invariant-loop-item l = l.pairs.items ++ map decoded_pair (pairs_left l.item-iterator) ≡ form_pairs l.fn.bytes
