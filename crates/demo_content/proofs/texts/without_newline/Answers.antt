use Rattle.std.proofs.Common.{ap, lit<, sym, ◌∙◌}
use Rattle.std.proofs.lemmas.Str.Pattern.{strip_suffix_char}
use Rattle.demo_content.specs.DemoTexts.{without_newline}
use Rattle.demo_content.proofs.NewlineLemmas.{kept, stripped}
use Rattle.demo_content.proofs.texts.without_newline.Goals as goal

pub returns-in-Some : goal.returns-in-Some
returns-in-Some c =
    let whole = rw c.in-Some.is at (strip_suffix_char 10 c.as_str-text.result.now c.strip_suffix.result c.strip_suffix.ensures.cases (lit< tt)) in
    sym (stripped c.in-Some.front.now) ∙ ap without_newline (sym whole ∙ c.as_str-text.ensures)

pub returns-in-None : goal.returns-in-None
returns-in-None c =
    let none = rw c.in-None.is at (strip_suffix_char 10 c.as_str-text.result.now c.strip_suffix.result c.strip_suffix.ensures.cases (lit< tt)) in
    sym (kept c.as_str-text.result.now none) ∙ ap without_newline c.as_str-text.ensures
