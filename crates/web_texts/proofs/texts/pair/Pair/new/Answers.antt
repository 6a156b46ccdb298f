use Rattle.std.proofs.Common.{string_bytes}
use Rattle.std.proofs.lemmas.Str.{IsCharBoundary-at_seam}
use Rattle.web_texts.proofs.texts.pair.Pair.new.Goals as goal

pub invariant_of-result : goal.invariant_of-result
invariant_of-result c =
    IsCharBoundary-at_seam (string_bytes c.in_ok-text.text) c.args.name.now c.args.value.now c.in_ok-text.ensures c.utf8.value
