use Rattle.std.proofs.Common.{◌≡◌, [], take, map}
use Rattle.form_urlencoded.specs.Form.{extend_pairs}
use Rattle.web_codec.specs.FormPairs.{name_and_value}
use Rattle.web_codec.proofs.form.pairs_text.Given as goal

abbrev pub invariant-loop-pair : goal.invariant-loop-pair
invariant-loop-pair l = (l.form.prefix ≡ []) × (l.form.form ≡ extend_pairs [] (map name_and_value (take l.pair-index l.pairs)))
