use Rattle.std.proofs.Common.{sym, ◌∙◌}
use Rattle.std.specs.Prelude.{codes}
use Rattle.http_header.specs.HeaderMap.{get_all}
use Rattle.web_docs.proofs.DateLemmas.{range_absent, range_there}
use Rattle.web_docs.proofs.conditions.range_condition.Goals as goal

pub returns-in-Some : goal.returns-in-Some
returns-in-Some c =
    c.names_version.ensures
    ∙ sym (range_there c.args.tag.now c.args.modified (get_all c.args.headers.now (codes "if-range")) c.in-Some.value.now c.in-Some.ensures.value)

pub returns : goal.returns
returns c = sym (range_absent c.args.tag.now c.args.modified (get_all c.args.headers.now (codes "if-range")) c.in-None.ensures.value)
