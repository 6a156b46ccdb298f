use Rattle.std.proofs.Common.{sym, ◌∙◌}
use Rattle.http_header.specs.HeaderMap.{get_all}
use Rattle.web_texts.proofs.HeaderTextLemmas.{first_is, first_is_none}
use Rattle.web_texts.proofs.grammar.header_texts.first_text.Goals as goal

pub returns-in-Some : goal.returns-in-Some
returns-in-Some c = c.header_text.ensures ∙ sym (first_is (get_all c.args.headers.now c.args.name.now) c.in-Some.value.now c.in-Some.ensures.value)

pub returns-in-None : goal.returns-in-None
returns-in-None c = sym (first_is_none (get_all c.args.headers.now c.args.name.now) c.in-None.ensures.value)
