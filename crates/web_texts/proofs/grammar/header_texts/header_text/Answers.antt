use Rattle.std.proofs.Common.{refl, sym, ap, Some, ◌∙◌}
use Rattle.std.proofs.lemmas.Bool.{false≢true}
use Rattle.web_texts.proofs.HeaderTextLemmas.{is_text, no_text}
use Rattle.web_texts.proofs.grammar.header_texts.header_text.Goals as goal

pub returns-in-Ok : goal.returns-in-Ok
returns-in-Ok c = ap Some c.in-Ok.ensures.ok ∙ sym (is_text c.args.value.now.bytes (c.in-Ok.ensures.succeeds.0 refl))

pub returns-in-Err : goal.returns-in-Err
returns-in-Err c = sym (no_text c.args.value.now.bytes (λ v. absurd (false≢true (c.in-Err.ensures.succeeds.1 v))))
