use Rattle.std.proofs.Common.{◌∙◌, sym}
use Rattle.web_texts.proofs.TagLemmas.{first_subtag, bad_subtag, last_subtag}
use Rattle.web_texts.proofs.media.language_tag.are_subtags.Goals as goal

pub returns-then-not-is_subtag : goal.returns-then-not-is_subtag
returns-then-not-is_subtag c =
    sym (bad_subtag c.subtags.rest.now c.in-Some.subtag.now c.in-Some.behind.now c.in-Some.ensures (sym c.is_subtag.ensures ∙ c.if-not-is_subtag.true)) ∙ c.subtags.invariant

pub subtags-preserved : goal.subtags-preserved
subtags-preserved c =
    sym (first_subtag c.subtags.rest.now c.in-Some.subtag.now c.in-Some.behind.now c.in-Some.ensures (sym c.is_subtag.ensures ∙ c.if-not-is_subtag.false)) ∙ c.subtags.invariant

pub returns-in-None : goal.returns-in-None
returns-in-None c =
    c.is_subtag-in-None.ensures ∙ sym (last_subtag c.subtags.rest.now c.in-None.ensures) ∙ c.subtags.invariant
