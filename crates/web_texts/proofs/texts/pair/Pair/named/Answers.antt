use Rattle.std.proofs.Common.{ℕ, List, ◌++◌, string_bytes, ap, sym, ◌∙◌}
use Rattle.std.proofs.lemmas.Str.{IsCharBoundary-at_seam}
use Rattle.web_texts.proofs.texts.pair.Pair.named.Goals as goal

pub invariant_of-result : goal.invariant_of-result
invariant_of-result c =
    IsCharBoundary-at_seam (string_bytes c.in_ok-text.text) c.as_str-middle.result.now c.args.value.now
    (c.in_ok-text.ensures ∙ ap (λ (l : List ℕ). l ++ c.args.value.now) (c.into_string.ensures ∙ sym c.as_str-middle.ensures)) c.utf8.value
