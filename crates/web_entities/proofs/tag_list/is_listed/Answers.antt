use Rattle.std.proofs.Common.{sym, ◌∙◌}
use Rattle.std.proofs.lemmas.Bool.{cond-true, cond-false}
use Rattle.http_header.specs.HeaderMap.{get_all}
use Rattle.web_entities.specs.EntityTags.{equals}
use Rattle.web_entities.proofs.ListedTagsLemmas.{present}
use Rattle.web_entities.proofs.tag_list.is_listed.Goals as goal

pub returns-then-is_any_value : goal.returns-then-is_any_value
returns-then-is_any_value c =
    sym (
    present (equals c.args.comparison) c.args.tag.now (get_all c.args.headers.now c.args.name.now) c.in_ok-first.first.now c.in_ok-first.ensures.value
    ∙ cond-true _ _ _ (sym c.is_any_value.ensures ∙ c.if-is_any_value.true))

pub returns : goal.returns
returns c =
    c.is_listed_in_values.ensures
    ∙ sym (
    present (equals c.args.comparison) c.args.tag.now (get_all c.args.headers.now c.args.name.now) c.in_ok-first.first.now c.in_ok-first.ensures.value
    ∙ cond-false _ _ _ (sym c.is_any_value.ensures ∙ c.if-is_any_value.false))
