use Rattle.std.proofs.Common.{ℕ, List, ◌++◌, Some, ap, subst, sym, ◌∙◌}
use Rattle.web_texts.specs.WrittenMediaTypes.{ArePlain}
use Rattle.web_texts.specs.Pairs.{Pair}
use Rattle.web_texts.proofs.WrittenMediaLemmas.{media_written}
use Rattle.web_texts.proofs.media.media_type.Mime.is_written.Goals as goal

pub returns-in-Some : goal.returns-in-Some
returns-in-Some c = λ e.
    media_written c.self.inside.essence c.self.inside.params c.args.text.now c.in-Some.params.now c.self.invariant
    (sym c.as_bytes.ensures.value ∙ c.in-Some.ensures ∙ ap (λ (l : List ℕ). l ++ c.in-Some.params.now) (c.as_bytes-2.ensures.value ∙ c.as_str.ensures))
    (subst (λ (ps : List Pair). ArePlain ps c.in-Some.params.now) c.as_slice.ensures (c.are_plain.ensures e))
    ∙ ap Some c.self.view_is
