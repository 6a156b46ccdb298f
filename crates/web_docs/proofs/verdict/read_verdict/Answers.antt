use Rattle.std.proofs.Common.{sym, ◌∙◌}
use Rattle.web_docs.proofs.VerdictLemmas.{all_of_it}
use Rattle.web_docs.proofs.verdict.read_verdict.Goals as goal

pub returns-then-is_empty : goal.returns-then-is_empty
returns-then-is_empty c =
    sym (all_of_it c.args.method.now c.args.tag.now c.args.modified c.args.headers.now
    (sym c.is_empty.ensures ∙ c.if-is_empty.true)
    (sym c.is_get_or_head.ensures ∙ c.if-not-is_get_or_head.false))
